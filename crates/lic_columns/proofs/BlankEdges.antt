-- Edges of white space are blanks already.
use Rattle.std.proofs.Common.{◌≡◌, ℕ, ◌+◌, ◌-◌, ◌<◌, ◌≤◌, Bool, true, false, not, ◌&&◌, ◌||◌, ◌⊎◌, List, length, map, get_or, refl, sym, ap, ap₂, ◌∙◌, inl, inr, arith}
use Rattle.std.specs.Prelude.{IsAscii, slice_index, nat_le, nat_lt}
use Rattle.std.specs.Char.{is_whitespace}
use Rattle.std.proofs.lemmas.Bool.{cases_lt, le-leb, lt-ltb}
use Rattle.std.proofs.lemmas.List.{ext_get_or, get_or-map, get_or_past, length-map}
use Rattle.lic_kind.specs.Kinds.{is_word_kind, is_mark_kind}
use Rattle.lic_kind.proofs.KindLemmas.{kind_of-white}
use Rattle.lic_trim.specs.declared.cut.LineCut.{LineCut}
use Rattle.lic_trim.specs.Spaces.{HasSpaces}
use Rattle.lic_letters.specs.Bytes.{is_word, is_mark}
use Rattle.lic_columns.specs.Edges.{AreBlank, edges_blanked}
use Rattle.lic_columns.specs.Flags.{cleared, is_within}
use Rattle.lic_columns.specs.Known.{Known, known_of, blanked, is_dark}
use Rattle.lic_columns.specs.Masks.{flag_at}
use Rattle.lic_columns.proofs.BitLemmas.{within_before, within_after}
use Rattle.lic_columns.proofs.FlagLemmas.{length-cleared, flag_at-cleared}

or_parts : (a b : Bool) → (a || b) ≡ false → (a ≡ false) × (b ≡ false)
or_parts false b off = (refl, off)
or_parts true b off = absurd (let e : true ≡ false = off in cc)

-- ---- white space of ASCII is neither of a word nor a mark

white_is_none : (b : ℕ) → b < 128 → is_whitespace b ≡ true → (is_word b ≡ false) × (is_mark b ≡ false)
white_is_none b small white =
    let kind = kind_of-white b white in
    let low : nat_lt b 128 ≡ true = lt-ltb b 128 small in
    (ap₂ (λ t k. not t || is_word_kind k) low kind, ap₂ (λ t k. t && is_mark_kind k) low kind)

module _ (text : List ℕ) (ascii : IsAscii text) where
  pub white_is_blank : (k : ℕ) → is_whitespace (slice_index text k) ≡ true → is_dark (known_of text) k ≡ false
  white_is_blank k white = elim (cases_lt k (length text)) [
    | inl inside ↦
        let none = white_is_none (get_or text k 0) (ascii k) white in
        ap₂ (λ t u. t || u) (get_or-map is_word text k 0 false inside ∙ none.0) (get_or-map is_mark text k 0 false inside ∙ none.1)
    | inr past ↦
        ap₂ (λ t u. t || u) (get_or_past (map is_word text) k false (omega (arith, length-map text is_word)))
        (get_or_past (map is_mark text) k false (omega (arith, length-map text is_mark)))
  ]

-- ---- what is no flag is none after more is cleared

still_off : (from to : ℕ) (flags : List Bool) (k : ℕ) → flag_at flags k ≡ false → flag_at (cleared from to flags) k ≡ false
still_off from to flags k off = flag_at-cleared from to flags k ∙ ap (λ t. t && not (is_within from to k)) off

pub still_blank : (cut : LineCut) (at end : ℕ) (known : Known) (k : ℕ) → is_dark known k ≡ false → is_dark (edges_blanked cut at end known) k ≡ false
still_blank cut at end known k off =
    let parts = or_parts (flag_at known.word k) (flag_at known.mark k) off in
    let first = at + (cut.lead + cut.item) in
    ap₂ (λ t u. t || u)
    (still_off (end - cut.tail) end (cleared at first known.word) k (still_off at first known.word k parts.0))
    (still_off (end - cut.tail) end (cleared at first known.mark) k (still_off at first known.mark k parts.1))

-- ---- where no flag is, it makes no difference what is cleared

same_cleared : (from to from' to' : ℕ) (flags : List Bool) → ((k : ℕ) → (flag_at flags k ≡ false) ⊎ (is_within from to k ≡ is_within from' to' k))
    → cleared from to flags ≡ cleared from' to' flags
same_cleared from to from' to' flags same =
    ext_get_or false (cleared from to flags) (cleared from' to' flags) (length-cleared from to flags ∙ sym (length-cleared from' to' flags)) (λ k inside.
    flag_at-cleared from to flags k ∙ at k (same k) ∙ sym (flag_at-cleared from' to' flags k))
  where
    at : (k : ℕ) → (flag_at flags k ≡ false) ⊎ (is_within from to k ≡ is_within from' to' k)
        → (flag_at flags k && not (is_within from to k)) ≡ (flag_at flags k && not (is_within from' to' k))
    at k (inl off) = ap (λ t. t && not (is_within from to k)) off ∙ sym (ap (λ t. t && not (is_within from' to' k)) off)
    at k (inr is) = ap (λ t. flag_at flags k && not t) is

same_blanked : (from to from' to' : ℕ) (known : Known) → ((k : ℕ) → (is_dark known k ≡ false) ⊎ (is_within from to k ≡ is_within from' to' k))
    → blanked from to known ≡ blanked from' to' known
same_blanked from to from' to' known same =
    let word : cleared from to known.word ≡ cleared from' to' known.word =
    same_cleared from to from' to' known.word (λ k. elim (same k) [
      | inl off ↦ inl (or_parts (flag_at known.word k) (flag_at known.mark k) off).0
      | inr is ↦ inr is
    ]) in
    let mark : cleared from to known.mark ≡ cleared from' to' known.mark =
    same_cleared from to from' to' known.mark (λ k. elim (same k) [
      | inl off ↦ inl (or_parts (flag_at known.word k) (flag_at known.mark k) off).1
      | inr is ↦ inr is
    ]) in
    ap₂ (λ w m. record known { word = w; mark = m }) word mark

-- from a later offset on, or up to an earlier one
later_from : (from mid to k : ℕ) → from ≤ mid → (k < from) ⊎ (mid ≤ k) → is_within mid to k ≡ is_within from to k
later_from from mid to k order (inl low) = within_before mid to k (omega arith) ∙ sym (within_before from to k low)
later_from from mid to k order (inr high) = ap (λ t. t && nat_lt k to) (le-leb mid k high ∙ sym (le-leb from k (omega arith)))

earlier_to : (from mid to k : ℕ) → mid ≤ to → (k < mid) ⊎ (to ≤ k) → is_within from mid k ≡ is_within from to k
earlier_to from mid to k order (inl low) = ap (λ t. nat_le from k && t) (lt-ltb k mid low ∙ sym (lt-ltb k to (omega arith)))
earlier_to from mid to k order (inr high) = within_after from mid k (omega arith) ∙ sym (within_after from to k high)

module _ (line : List ℕ) (at : ℕ) (known : Known) (cut : LineCut) (front tail : ℕ) (has : HasSpaces cut front tail line)
    (within : cut.lead + cut.item + cut.tail ≤ length line) (blank : AreBlank line at known) where
  abbrev end : ℕ
  end = at + length line

  abbrev first : ℕ
  first = at + (cut.lead + cut.item)

  blank_at : (k : ℕ) → at ≤ k → is_whitespace (slice_index line (k - at)) ≡ true → is_dark known k ≡ false
  blank_at k low white = let offset : k ≡ at + (k - at) = omega arith in ap (is_dark known) offset ∙ blank.spaces (k - at) white

  lead_without_spaces : blanked (at + front) first known ≡ blanked at first known
  lead_without_spaces = same_blanked (at + front) first at first known (λ k. elim (cases_lt k at) [
    | inl low ↦ inr (later_from at (at + front) first k (omega arith) (inl low))
    | inr high ↦ elim (cases_lt k (at + front)) [
      | inl inside ↦ inl (blank_at k high (has.lead (k - at) (omega arith)))
      | inr past ↦ inr (later_from at (at + front) first k (omega arith) (inr past))
    ]
  ])

  tail_without_spaces : (cleared' : Known) → ((k : ℕ) → is_dark known k ≡ false → is_dark cleared' k ≡ false)
      → blanked (end - cut.tail) (end - tail) cleared' ≡ blanked (end - cut.tail) end cleared'
  tail_without_spaces cleared' still = same_blanked (end - cut.tail) (end - tail) (end - cut.tail) end cleared' (λ k. elim (cases_lt k (end - tail)) [
    | inl low ↦ inr (earlier_to (end - cut.tail) (end - tail) end k (omega arith) (inl low))
    | inr high ↦ elim (cases_lt k end) [
      | inl inside ↦ inl (still k (blank_at k (omega (arith, within, has.in_tail)) (has.tail (k - at) (omega (arith, within, has.in_tail)) (omega (arith, within, has.in_tail)))))
      | inr past ↦ inr (earlier_to (end - cut.tail) (end - tail) end k (omega arith) (inr past))
    ]
  ])

  pub edges_without_spaces : blanked (end - cut.tail) (end - tail) (blanked (at + front) first known) ≡ edges_blanked cut at end known
  edges_without_spaces =
      ap (blanked (end - cut.tail) (end - tail)) lead_without_spaces
      ∙ tail_without_spaces (blanked at first known) (λ k off.
      let parts = or_parts (flag_at known.word k) (flag_at known.mark k) off in
      ap₂ (λ t u. t || u) (still_off at first known.word k parts.0) (still_off at first known.mark k parts.1))
