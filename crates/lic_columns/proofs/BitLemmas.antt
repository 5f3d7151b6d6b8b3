-- The bits of masks that are parts of others, or others moved.
use Rattle.std.proofs.Common.{◌≡◌, ◌%◌, ◌/◌, ◌*◌, ◌+◌, ℕ, suc, ◌-◌, ◌^◌, ◌<◌, ◌≤◌, Bool, true, false, not, ◌&&◌, ◌||◌, refl, ap, ◌∙◌, sym, inl, inr, arith, w64, ltb, leb, lt-ltb, le-leb}
use Rattle.std.proofs.lemmas.Bool.{cases_lt, le-ltb, lt-leb}
use Rattle.std.specs.Prelude.{bit_and, bit_or}
use Rattle.std.specs.Int.{bit_not}
use Rattle.std.proofs.Math.Pow.{pow_mono}
use Rattle.lic_letters.proofs.BitLemmas.{has_bit_and, has_bit_or, has_bit_not, has_bit_above, has_bit_below, has_bit_shl, has_bit_shl_low, has_bit_shr}
use Rattle.lic_columns.specs.Flags.{is_within}
use Rattle.lic_trim.specs.PieceLengths.{has_bit}

pub within_is : (from to k : ℕ) → from ≤ k → k < to → is_within from to k ≡ true
within_is from to k low high = ap (λ t. t && ltb k to) (le-leb from k low) ∙ lt-ltb k to high

pub within_before : (from to k : ℕ) → k < from → is_within from to k ≡ false
within_before from to k low = ap (λ t. t && ltb k to) (lt-leb from k low)

and-false : (t : Bool) → (t && false) ≡ false
and-false true = refl
and-false false = refl

pub within_after : (from to k : ℕ) → to ≤ k → is_within from to k ≡ false
within_after from to k high = ap (λ t. leb from k && t) (le-ltb k to high) ∙ and-false (leb from k)

outside : (from to k : ℕ) → (ltb k from || not (ltb k to)) ≡ not (is_within from to k)
outside from to k = elim (cases_lt k from) [
  | inl low ↦ ap (λ t. t || not (ltb k to)) (lt-ltb k from low) ∙ ap not (sym (within_before from to k low))
  | inr high ↦ ap (λ t. t || not (ltb k to)) (le-ltb k from high) ∙ ap (λ t. not (t && ltb k to)) (sym (le-leb from k high))
]

ones_fit : (n : ℕ) → n ≤ 64 → 2 ^ n - 1 < 2 ^ 64
ones_fit n small = let more : 2 ^ n ≤ 2 ^ 64 = pow_mono small in omega arith

pub without_is : (mask from to low high k : ℕ) → from ≤ 64 → to ≤ 64 → low ≡ 2 ^ from - 1 → high ≡ 2 ^ to - 1 → k < 64
    → has_bit (bit_and mask (bit_or low (bit_not w64 high))) k ≡ (has_bit mask k && not (is_within from to k))
without_is mask from to low high k small_from small_to is_low is_high small =
    let first : has_bit low k ≡ ltb k from = ap (λ m. has_bit m k) is_low ∙ has_bit_below from k in
    let fits : high < 2 ^ 64 = let f = ones_fit to small_to in omega arith in
    let last : has_bit (bit_not w64 high) k ≡ not (ltb k to) = has_bit_not high k fits small ∙ ap not (ap (λ m. has_bit m k) is_high ∙ has_bit_below to k) in
    has_bit_and mask (bit_or low (bit_not w64 high)) k
    ∙ ap (λ t. has_bit mask k && t) (has_bit_or low (bit_not w64 high) k ∙ ap (λ t. t || has_bit (bit_not w64 high) k) first ∙ ap (λ t. ltb k from || t) last ∙ outside from to k)

-- ---- shifts

or-false : (t : Bool) → (t || false) ≡ t
or-false true = refl
or-false false = refl

module _ (before mask : ℕ) (fits : before < 2 ^ 64) where
  pub moved_up_first : has_bit (bit_or (mask * 2 ^ 1 % 2 ^ 64) (before / 2 ^ 63)) 0 ≡ has_bit before 63
  moved_up_first =
      has_bit_or (mask * 2 ^ 1 % 2 ^ 64) (before / 2 ^ 63) 0
      ∙ ap (λ t. t || has_bit (before / 2 ^ 63) 0) (has_bit_shl_low mask 1 0 (omega arith) (omega arith)) ∙ has_bit_shr before 63 0

  pub moved_up_rest : (i : ℕ) → suc i < 64 → has_bit (bit_or (mask * 2 ^ 1 % 2 ^ 64) (before / 2 ^ 63)) (suc i) ≡ has_bit mask i
  moved_up_rest i small =
      has_bit_or (mask * 2 ^ 1 % 2 ^ 64) (before / 2 ^ 63) (suc i)
      ∙ ap (λ t. t || has_bit (before / 2 ^ 63) (suc i)) (has_bit_shl mask 1 i (suc i) (omega arith) small)
      ∙ ap (λ t. has_bit mask i || t) (has_bit_shr before 63 (suc i) ∙ has_bit_above before 64 (63 + suc i) fits (omega arith))
      ∙ or-false (has_bit mask i)

module _ (mask after : ℕ) (fits : mask < 2 ^ 64) where
  pub moved_down_last : has_bit (bit_or (mask / 2 ^ 1) (after * 2 ^ 63 % 2 ^ 64)) 63 ≡ has_bit after 0
  moved_down_last =
      has_bit_or (mask / 2 ^ 1) (after * 2 ^ 63 % 2 ^ 64) 63
      ∙ ap (λ t. t || has_bit (after * 2 ^ 63 % 2 ^ 64) 63) (has_bit_shr mask 1 63 ∙ has_bit_above mask 64 (1 + 63) fits (omega arith))
      ∙ has_bit_shl after 63 0 63 (omega arith) (omega arith)

  pub moved_down_rest : (i : ℕ) → i < 63 → has_bit (bit_or (mask / 2 ^ 1) (after * 2 ^ 63 % 2 ^ 64)) i ≡ has_bit mask (suc i)
  moved_down_rest i small =
      has_bit_or (mask / 2 ^ 1) (after * 2 ^ 63 % 2 ^ 64) i
      ∙ ap (λ t. t || has_bit (after * 2 ^ 63 % 2 ^ 64) i) (has_bit_shr mask 1 i ∙ ap (λ k. has_bit mask k) (let f : 1 + i ≡ suc i = omega arith in f))
      ∙ ap (λ t. has_bit mask (suc i) || t) (has_bit_shl_low after 63 i small (omega arith)) ∙ or-false (has_bit mask (suc i))

pub but_not_is : (mask other k : ℕ) → other < 2 ^ 64 → k < 64 → has_bit (bit_and mask (bit_not w64 other)) k ≡ (has_bit mask k && not (has_bit other k))
but_not_is mask other k fits small =
    has_bit_and mask (bit_not w64 other) k ∙ ap (λ t. has_bit mask k && t) (has_bit_not other k fits small)
