-- How long the separators are that a way begins with.
use Rattle.std.proofs.Common.{◌≡◌, ◌≢◌, ℕ, ◌+◌, ◌*◌, ◌%◌, ◌^◌, ◌-◌, ◌<◌, ◌≤◌, Bool, true, false, ◌&&◌, ◌==◌, inl, inr, List, length, take, drop, get_or, sym, ap, ◌∙◌, arith}
use Rattle.std.proofs.Math.Pow.{pow_mono}
use Rattle.std.proofs.lemmas.Bool.{false≢true, and_parts, and_from, cases_Bool, cases_lt, le-leb, leb-true}
use Rattle.std.proofs.lemmas.List.{length-take-le, length-drop, get_or-take, get_or-drop}
use Rattle.std.proofs.lemmas.Nat.Bits.{bit_at_mask_inside, bit_at_mask_below, bit_at_mask_above}
use Rattle.lic_kind.specs.Kinds.{kind_of, is_mark_kind}
use Rattle.lic_trim.specs.Lines.{is_separator}
use Rattle.lic_trim.specs.PieceLengths.{has_bit, begins_with_separator}
use Rattle.lic_trim.proofs.PieceEnds.{separator_parts, separator_from}
use Rattle.lic_trim.proofs.PieceLengths.{has_bit_zero}

module _ (way : List ℕ) where
  -- a separator has three characters at least, all of them the first one, which is a mark
  separator_is : (n : ℕ) → n ≤ length way → is_separator (take n way) ≡ true
      → (3 ≤ n) × (is_mark_kind (kind_of (get_or way 0 0)) ≡ true) × ((i : ℕ) → i < n → get_or way i 0 ≡ get_or way 0 0)
  separator_is n le h =
      let parts = separator_parts (take n way) h in
      let size : length (take n way) ≡ n = length-take-le n way le in
      let long : 3 ≤ n = omega (arith, parts.0, size) in
      let each = λ (i : ℕ) (lt : i < n). sym (get_or-take n way i 0 lt) ∙ parts.3 i (omega (arith, size)) in
      (long, ap (λ d. is_mark_kind (kind_of d)) (each 0 (omega arith)) ∙ parts.2, λ i lt. each i lt ∙ sym (each 0 (omega arith)))

  none_begins : (separators : Bool) (n : ℕ) → (n ≤ length way → separators ≡ true → is_separator (take n way) ≡ true → ⊥)
      → begins_with_separator separators n way ≡ false
  none_begins separators n never = elim (cases_Bool (begins_with_separator separators n way)) [
    | inl yes' ↦
        let parts = and_parts _ (separators && is_separator (take n way)) yes' in
        let both = and_parts separators (is_separator (take n way)) parts.1 in
        absurd (never (leb-true n (length way) parts.0) both.0 both.1)
    | inr never_so ↦ never_so
  ]

  -- of no separator no bit is set: where separators are no pieces,
  pub bits_without : (separators : Bool) → separators ≡ false → (n : ℕ) → has_bit 0 n ≡ begins_with_separator separators n way
  bits_without separators off n = has_bit_zero n ∙ sym (none_begins separators n (λ le on is. false≢true (sym off ∙ on)))

  -- where the first character is no mark,
  pub bits_of_word : (separators : Bool) → is_mark_kind (kind_of (get_or way 0 0)) ≡ false → (n : ℕ)
      → has_bit 0 n ≡ begins_with_separator separators n way
  bits_of_word separators word n =
      has_bit_zero n ∙ sym (none_begins separators n (λ le on is. false≢true (sym word ∙ (separator_is n le is).1)))

  module _ (streak : ℕ) (within : streak ≤ length way) (same : (i : ℕ) → i < streak → get_or way i 0 ≡ get_or way 0 0)
      (stop : streak < length way → get_or way streak 0 ≢ get_or way 0 0) where
    in_streak : (n : ℕ) → n ≤ length way → is_separator (take n way) ≡ true → (3 ≤ n) × (n ≤ streak)
    in_streak n le is =
        let parts = separator_is n le is in (
          parts.0,
          elim (cases_lt streak n) [
            | inl beyond ↦ absurd (stop (omega arith) (parts.2 streak beyond))
            | inr fits ↦ fits
          ],
        )

    -- where fewer than three are alike,
    pub bits_of_few : (separators : Bool) → streak < 3 → (n : ℕ) → has_bit 0 n ≡ begins_with_separator separators n way
    bits_of_few separators few n =
        has_bit_zero n ∙ sym (none_begins separators n (λ le on is. let far = in_streak n le is in omega (arith, far.0, far.1)))

    -- and in a streak of marks those from 3 to its length are
    pub bits_of_streak : (separators : Bool) → separators ≡ true → is_mark_kind (kind_of (get_or way 0 0)) ≡ true → (n : ℕ)
        → has_bit (2 ^ (streak + 1) - 2 ^ 3) n ≡ begins_with_separator separators n way
    bits_of_streak separators on mark n = elim (cases_lt n 3) [
      | inl low ↦
          ap (λ b. b == 1) (bit_at_mask_below 3 (streak + 1) n low)
          ∙ sym (none_begins separators n (λ le on' is. let far = in_streak n le is in omega (arith, far.0)))
      | inr long ↦ elim (cases_lt streak n) [
        | inl beyond ↦
            ap (λ b. b == 1) (bit_at_mask_above 3 (streak + 1) n (omega arith))
            ∙ sym (none_begins separators n (λ le on' is. let far = in_streak n le is in omega (arith, far.1)))
        | inr fits ↦
            let size : length (take n way) ≡ n = length-take-le n way (omega arith) in
            let is : is_separator (take n way) ≡ true =
            separator_from (take n way) (get_or way 0 0) mark (omega (arith, size))
            (λ i lt. get_or-take n way i 0 (omega (arith, size)) ∙ same i (omega (arith, size))) in
            ap (λ b. b == 1) (bit_at_mask_inside 3 (streak + 1) n long (omega arith))
            ∙ sym (and_from _ _ (le-leb n (length way) (omega arith)) (and_from separators (is_separator (take n way)) on is))
      ]
    ]

-- the same facts at an index of a line
module _ (line : List ℕ) (index : ℕ) where
  pub first_at : get_or (drop index line) 0 0 ≡ get_or line index 0
  first_at = let start : index + 0 ≡ index = omega arith in get_or-drop index line 0 0 ∙ ap (λ k. get_or line k 0) start

  pub same_at : (streak : ℕ) → ((i : ℕ) → i < streak → get_or line (index + i) 0 ≡ get_or line index 0)
      → (i : ℕ) → i < streak → get_or (drop index line) i 0 ≡ get_or (drop index line) 0 0
  same_at streak same i lt = get_or-drop index line i 0 ∙ same i lt ∙ sym first_at

  pub stop_at : (streak : ℕ) → (index + streak < length line → get_or line (index + streak) 0 ≢ get_or line index 0)
      → streak < length (drop index line) → get_or (drop index line) streak 0 ≢ get_or (drop index line) 0 0
  stop_at streak stop lt e = stop (omega (arith, length-drop index line)) (sym (get_or-drop index line streak 0) ∙ e ∙ first_at)

-- how a mask of the lengths from 3 to that of a streak is made
pub length_of_streak : (streak : ℕ) → 3 ≤ streak → streak ≤ 62 → (8 ≤ 1 * 2 ^ (streak + 1) % 2 ^ 64) × (1 * 2 ^ (streak + 1) % 2 ^ 64 ≡ 2 ^ (streak + 1))
length_of_streak streak long fits =
    let low : 2 ^ 3 ≤ 2 ^ (streak + 1) = pow_mono {i = 3} {j = streak + 1} (omega arith) in
    let high : 2 ^ (streak + 1) ≤ 2 ^ 63 = pow_mono {i = streak + 1} {j = 63} (omega arith) in
    let is : 1 * 2 ^ (streak + 1) % 2 ^ 64 ≡ 2 ^ (streak + 1) = omega arith in
    (omega (arith, is), is)
