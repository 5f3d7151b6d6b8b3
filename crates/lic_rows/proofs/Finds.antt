-- The search for a set bit, word by word.
use Rattle.std.proofs.Common.{◌≡◌, ℕ, zero, suc, ◌+◌, ◌-◌, ◌*◌, ◌/◌, ◌%◌, ◌^◌, ◌<◌, ◌≤◌, Bool, true, false, ◌&&◌, not, List, get_or, refl, ap, sym, ◌∙◌, arith, inl, inr, w64, eq-eqb}
use Rattle.std.proofs.lemmas.Bool.{cases_lt}
use Rattle.std.proofs.lemmas.Nat.Bits.{bit_at-trailing_zeros, bit_at-zero, bit_at-lt, bit_at_above}
use Rattle.std.specs.Prelude.{◌==◌}
use Rattle.std.specs.Int.{bit_at, trailing_zeros, leading_zeros}
use Rattle.std.proofs.lemmas.Nat.{leading_top, shr_high}
use Rattle.lic_rows.specs.Bits.{has}
use Rattle.lic_rows.proofs.Sets.{some_bit}

-- The search has come to the word at `at`: of the bits of the range before it none is wanted, and of its own the
-- word has those that are wanted and are in the range or after.
pub record Looks (wanted : ℕ → Bool) (from to at word : ℕ) : Type 0 where
  pub begun : from / 64 ≤ at
  pub within : at ≤ to / 64
  pub fits : word < 2 ^ 64
  pub passed : (b : ℕ) → from ≤ b → b < at * 64 → wanted b ≡ false
  pub outside : (i : ℕ) → i < 64 → at * 64 + i < from → bit_at word i ≡ 0
  pub inside : (i : ℕ) → i < 64 → from ≤ at * 64 + i → (bit_at word i == 1) ≡ wanted (at * 64 + i)

module _ (wanted : ℕ → Bool) (from to : ℕ) (order : from ≤ to) where
  pub Looks-start : (whole word : ℕ) → word < 2 ^ 64 → ((i : ℕ) → i < 64 → (bit_at whole i == 1) ≡ wanted (from / 64 * 64 + i))
      → ((i : ℕ) → i < from % 64 → bit_at word i ≡ bit_at 0 i) → ((i : ℕ) → from % 64 ≤ i → i < 64 → bit_at word i ≡ bit_at whole i)
      → Looks wanted from to (from / 64) word
  Looks-start whole word fits are low high = record {
    begun = omega arith;
    within = omega arith;
    fits = fits;
    passed = λ b after before. absurd (omega arith);
    outside = λ i small before. low i (omega arith) ∙ bit_at-zero i;
    inside = λ i small after. ap (λ x. x == 1) (high i (omega arith) small) ∙ are i small;
  }

  -- a word with no bit has none that is wanted
  none_here : (at word : ℕ) → Looks wanted from to at word → word ≡ 0 → (b : ℕ) → from ≤ b → b < suc at * 64 → wanted b ≡ false
  none_here at word l none b after before = elim (cases_lt b (at * 64)) [
    | inl low ↦ l.passed b after low
    | inr high ↦
        let i : ℕ = b - at * 64 in
        let index : at * 64 + i ≡ b = omega arith in
        ap wanted (sym index) ∙ sym (l.inside i (omega arith) (omega arith)) ∙ ap (λ w. bit_at w i == 1) none ∙ ap (λ x. x == 1) (bit_at-zero i)
  ]

  pub Looks-more : (at word next : ℕ) → Looks wanted from to at word → word ≡ 0 → at < to / 64 → next < 2 ^ 64
      → ((i : ℕ) → i < 64 → (bit_at next i == 1) ≡ wanted ((at + 1) * 64 + i)) → Looks wanted from to (at + 1) next
  Looks-more at word next l none more fits are = record {
    begun = omega (arith, l.begun);
    within = omega arith;
    fits = fits;
    passed = λ b after before. none_here at word l none b after (omega arith);
    outside = λ i small before. absurd (omega (arith, l.begun));
    inside = λ i small after. are i small;
  }

  pub none_found : (at word : ℕ) → Looks wanted from to at word → word ≡ 0 → to / 64 ≤ at → (b : ℕ) → from ≤ b → b < to → wanted b ≡ false
  none_found at word l none last b after before = none_here at word l none b after (omega (arith, l.within))

  module _ (at word : ℕ) (l : Looks wanted from to at word) (some : 0 < word) where
    pub index_is : trailing_zeros w64 word < 64
    index_is = (bit_at-trailing_zeros w64 word some l.fits).0

    pub index_after : from ≤ at * 64 + trailing_zeros w64 word
    index_after =
        let t = bit_at-trailing_zeros w64 word some l.fits in
        elim (cases_lt (at * 64 + trailing_zeros w64 word) from) [
          | inl low ↦ absurd (let none = l.outside (trailing_zeros w64 word) t.0 low in let one = t.1 in omega arith)
          | inr high ↦ high
        ]

    pub index_wanted : wanted (at * 64 + trailing_zeros w64 word) ≡ true
    index_wanted =
        let t = bit_at-trailing_zeros w64 word some l.fits in
        sym (l.inside (trailing_zeros w64 word) t.0 index_after) ∙ eq-eqb _ 1 t.1

    pub none_before : (b : ℕ) → from ≤ b → b < at * 64 + trailing_zeros w64 word → wanted b ≡ false
    none_before b after before = elim (cases_lt b (at * 64)) [
      | inl low ↦ l.passed b after low
      | inr high ↦
          let t = bit_at-trailing_zeros w64 word some l.fits in
          let i : ℕ = b - at * 64 in
          let index : at * 64 + i ≡ b = omega arith in
          let less : i < trailing_zeros w64 word = omega arith in
          ap wanted (sym index) ∙ sym (l.inside i (omega (arith, t.0, less)) (omega arith)) ∙ ap (λ x. x == 1) (t.2 i less)
    ]

-- ---- from the last word to the first

-- The search has come down to the word at `at`: of the bits of the range after it none is wanted, and of its own the
-- word has those that are wanted and are in the range or before.
pub record LooksDown (wanted : ℕ → Bool) (from to at word : ℕ) : Type 0 where
  pub within : at ≤ to / 64
  pub fits : word < 2 ^ 64
  pub passed : (b : ℕ) → suc at * 64 ≤ b → b < to → wanted b ≡ false
  pub outside : (i : ℕ) → i < 64 → to ≤ at * 64 + i → bit_at word i ≡ 0
  pub inside : (i : ℕ) → i < 64 → at * 64 + i < to → (bit_at word i == 1) ≡ wanted (at * 64 + i)

-- what is above the highest bit, and that bit
quotient_one : (word j : ℕ) → 2 ^ j ≤ word → word < 2 ^ suc j → word / 2 ^ j ≡ 1
quotient_one word j low high =
    let rest : 1 * 2 ^ j + (word - 2 ^ j) ≡ word = omega arith in
    let small : word - 2 ^ j < 2 ^ j = omega (arith, double j) in
    ap (λ n. n / 2 ^ j) (sym rest) ∙ shr_high 1 j (word - 2 ^ j) small
  where
    double : (j : ℕ) → 2 ^ suc j ≡ 2 ^ j + 2 ^ j
    double j = omega arith

-- the index of the highest bit
abbrev pub highest : ℕ → ℕ
highest word = 63 - leading_zeros w64 word

pub highest_is : (word : ℕ) → 0 < word → word < 2 ^ 64
    → (highest word < 64) × (bit_at word (highest word) ≡ 1) × ((i : ℕ) → highest word < i → bit_at word i ≡ 0)
highest_is word some fits =
    let t = leading_top 64 word some fits in
    let j : ℕ = t.0 in
    let index : highest word ≡ j = omega (arith, t.1) in
    let one : word / 2 ^ j ≡ 1 = quotient_one word j t.2 t.3 in (
      omega (arith, index, t.1),
      ap (λ k. bit_at word k) index ∙ ap (λ n. n % 2) one,
      λ i above. bit_at_above word (suc j) i t.3 (omega (arith, index, above)),
    )

module _ (wanted : ℕ → Bool) (from to : ℕ) (order : from ≤ to) where
  pub LooksDown-start : (whole word : ℕ) → word < 2 ^ 64 → ((i : ℕ) → i < 64 → (bit_at whole i == 1) ≡ wanted (to / 64 * 64 + i))
      → ((i : ℕ) → i < to % 64 → bit_at word i ≡ bit_at whole i) → ((i : ℕ) → to % 64 ≤ i → i < 64 → bit_at word i ≡ bit_at 0 i)
      → LooksDown wanted from to (to / 64) word
  LooksDown-start whole word fits are low high = record {
    within = omega arith;
    fits = fits;
    passed = λ b after before. absurd (omega arith);
    outside = λ i small past. high i (omega arith) small ∙ bit_at-zero i;
    inside = λ i small before. ap (λ x. x == 1) (low i (omega arith)) ∙ are i small;
  }

  none_from : (at word : ℕ) → LooksDown wanted from to at word → word ≡ 0 → (b : ℕ) → at * 64 ≤ b → b < to → wanted b ≡ false
  none_from at word l none b after before = elim (cases_lt b (suc at * 64)) [
    | inl low ↦
        let i : ℕ = b - at * 64 in
        let index : at * 64 + i ≡ b = omega arith in
        ap wanted (sym index) ∙ sym (l.inside i (omega arith) (omega arith)) ∙ ap (λ w. bit_at w i == 1) none ∙ ap (λ x. x == 1) (bit_at-zero i)
    | inr high ↦ l.passed b high before
  ]

  pub LooksDown-more : (at word next : ℕ) → LooksDown wanted from to at word → word ≡ 0 → from / 64 < at → next < 2 ^ 64
      → ((i : ℕ) → i < 64 → (bit_at next i == 1) ≡ wanted ((at - 1) * 64 + i)) → LooksDown wanted from to (at - 1) next
  LooksDown-more at word next l none more fits are = record {
    within = omega (arith, l.within);
    fits = fits;
    passed = λ b after before. none_from at word l none b (omega arith) before;
    outside = λ i small past. absurd (omega (arith, l.within));
    inside = λ i small before. are i small;
  }

  pub none_down : (at word : ℕ) → LooksDown wanted from to at word → word ≡ 0 → at ≤ from / 64 → (b : ℕ) → from ≤ b → b < to → wanted b ≡ false
  none_down at word l none first b after before = none_from at word l none b (omega arith) before

  module _ (at word : ℕ) (l : LooksDown wanted from to at word) (some : 0 < word) where
    pub last_before : at * 64 + highest word < to
    last_before =
        let t = highest_is word some l.fits in
        elim (cases_lt (at * 64 + highest word) to) [
          | inl low ↦ low
          | inr high ↦ absurd (let none = l.outside (highest word) t.0 high in let one = t.1 in omega arith)
        ]

    pub last_wanted : wanted (at * 64 + highest word) ≡ true
    last_wanted =
        let t = highest_is word some l.fits in
        sym (l.inside (highest word) t.0 last_before) ∙ eq-eqb _ 1 t.1

    pub none_past : (b : ℕ) → at * 64 + highest word < b → b < to → wanted b ≡ false
    none_past b after before = elim (cases_lt b (suc at * 64)) [
      | inl low ↦
          let t = highest_is word some l.fits in
          let i : ℕ = b - at * 64 in
          let index : at * 64 + i ≡ b = omega arith in
          ap wanted (sym index) ∙ sym (l.inside i (omega arith) (omega arith)) ∙ ap (λ x. x == 1) (t.2 i (omega arith))
      | inr high ↦ l.passed b high before
    ]

-- ---- what the bits of a word say

pub has_here : (row : List ℕ) (at i : ℕ) → i < 64 → (bit_at (get_or row at 0) i == 1) ≡ has row (at * 64 + i)
has_here row at i small =
    let word : (at * 64 + i) / 64 ≡ at = omega arith in
    let bit : (at * 64 + i) % 64 ≡ i = omega arith in
    rw (word, bit) refl

minus : (m n : ℕ) → m < 2 → n < 2 → (m - n == 1) ≡ ((m == 1) && not (n == 1))
minus zero zero p q = refl
minus zero (suc zero) p q = refl
minus (suc zero) zero p q = refl
minus (suc zero) (suc zero) p q = refl
minus (suc (suc m)) n p q = absurd (omega arith)
minus m (suc (suc n)) p q = absurd (omega arith)

fresh_true : (x y : Bool) → (x && not y) ≡ true → (y ≡ false) × (x ≡ true)
fresh_true true false e = (refl, refl)
fresh_true true true e = absurd cc
fresh_true false true e = absurd cc
fresh_true false false e = absurd cc

fresh_false : (x y : Bool) → (x && not y) ≡ false → x ≡ true → y ≡ true
fresh_false true true e h = refl
fresh_false true false e h = absurd cc
fresh_false false y e h = absurd cc

-- set in the other row and not in this one
abbrev is_fresh : List ℕ → List ℕ → ℕ → Bool
is_fresh row other b = has other b && not (has row b)

module _ (row other : List ℕ) (at word : ℕ) (fits : word < 2 ^ 64)
    (bits : (i : ℕ) → i < 64 → bit_at word i ≡ bit_at (get_or other at 0) i - bit_at (get_or row at 0) i) where
  fresh_here : (i : ℕ) → i < 64 → (bit_at word i == 1) ≡ is_fresh row other (at * 64 + i)
  fresh_here i small =
      ap (λ x. x == 1) (bits i small) ∙ minus (bit_at (get_or other at 0) i) (bit_at (get_or row at 0) i) (bit_at-lt _ i) (bit_at-lt _ i)
      ∙ ap (λ x. x && not (bit_at (get_or row at 0) i == 1)) (has_here other at i small)
      ∙ ap (λ x. has other (at * 64 + i) && not x) (has_here row at i small)

  pub some_fresh : 0 < word → (b : ℕ) × (has row b ≡ false) × (has other b ≡ true)
  some_fresh some =
      let t = some_bit word some fits in
      let b : ℕ = at * 64 + t.0 in
      let is = fresh_true (has other b) (has row b) (sym (fresh_here t.0 t.1) ∙ eq-eqb _ 1 t.2) in
      (b, is.0, is.1)

  pub none_fresh : word ≡ 0 → (b : ℕ) → b / 64 ≡ at → has other b ≡ true → has row b ≡ true
  none_fresh none b here set =
      let index : at * 64 + b % 64 ≡ b = omega arith in
      let bit : (bit_at word (b % 64) == 1) ≡ false = ap (λ w. bit_at w (b % 64) == 1) none ∙ ap (λ x. x == 1) (bit_at-zero (b % 64)) in
      fresh_false (has other b) (has row b) (ap (is_fresh row other) (sym index) ∙ sym (fresh_here (b % 64) (omega arith)) ∙ bit) set
