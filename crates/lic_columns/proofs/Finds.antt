-- The search for an offset, column by column.
use Rattle.std.proofs.Common.{◌≡◌, ℕ, suc, ◌+◌, ◌-◌, ◌*◌, ◌/◌, ◌%◌, ◌^◌, ◌<◌, ◌≤◌, Bool, true, false, not, ◌&&◌, refl, ap, sym, ◌∙◌, arith, inl, inr, w64, ltb, leb, lt-ltb, le-leb, leb-true, eq-eqb}
use Rattle.std.proofs.lemmas.Bool.{cases_lt, and_parts, le-ltb, lt-leb}
use Rattle.std.proofs.lemmas.Nat.Bits.{bit_at-trailing_zeros}
use Rattle.std.specs.Prelude.{◌==◌, bit_and}
use Rattle.std.specs.Int.{bit_not, trailing_zeros}
use Rattle.lic_letters.proofs.BitLemmas.{has_bit_and, has_bit_not, has_bit_below, has_bit_zero}
use Rattle.lic_trim.specs.PieceLengths.{has_bit}

-- The search has come to column k: of the offsets of the range before it none is wanted, and the mask has a bit at each of its own that is wanted
-- and not before the range.
pub record Looks (wanted : ℕ → Bool) (from to k mask : ℕ) : Type 0 where
  pub begun : from / 64 ≤ k
  pub within : k ≤ to / 64
  pub fits : mask < 2 ^ 64
  pub passed : (b : ℕ) → from ≤ b → b < k * 64 → wanted b ≡ false
  pub bits : (i : ℕ) → i < 64 → has_bit mask i ≡ (wanted (k * 64 + i) && leb from (k * 64 + i))

not_low : (n i : ℕ) → not (ltb i n) ≡ leb n i
not_low n i = elim (cases_lt i n) [
  | inl low ↦ ap not (lt-ltb i n low) ∙ sym (lt-leb n i low)
  | inr high ↦ ap not (le-ltb i n high) ∙ sym (le-leb n i high)
]

and_true : (t u : Bool) → u ≡ true → (t && u) ≡ t
and_true true u e = e
and_true false u e = refl

module _ (wanted : ℕ → Bool) (from to : ℕ) (order : from ≤ to) where
  pub Looks-start : (column low : ℕ) → column < 2 ^ 64 → low ≡ 2 ^ (from % 64) - 1 → low < 2 ^ 64
      → ((i : ℕ) → i < 64 → has_bit column i ≡ wanted (from / 64 * 64 + i)) → bit_and column (bit_not w64 low) < 2 ^ 64
      → Looks wanted from to (from / 64) (bit_and column (bit_not w64 low))
  Looks-start column low fits is_low low_fits are masked = record {
    begun = omega arith;
    within = omega arith;
    fits = masked;
    passed = λ b after before. absurd (omega arith);
    bits = λ i small.
        let same : leb (from % 64) i ≡ leb from (from / 64 * 64 + i) = elim (cases_lt i (from % 64)) [
          | inl before ↦ lt-leb (from % 64) i before ∙ sym (lt-leb from (from / 64 * 64 + i) (omega arith))
          | inr after ↦ le-leb (from % 64) i after ∙ sym (le-leb from (from / 64 * 64 + i) (omega arith))
        ] in
        has_bit_and column (bit_not w64 low) i
        ∙ ap (λ t. t && has_bit (bit_not w64 low) i) (are i small)
        ∙ ap (λ t. wanted (from / 64 * 64 + i) && t)
        (has_bit_not low i low_fits small ∙ ap not (ap (λ m. has_bit m i) is_low ∙ has_bit_below (from % 64) i) ∙ not_low (from % 64) i ∙ same);
  }

  -- a mask with no bit has no offset that is wanted
  none_here : (k mask : ℕ) → Looks wanted from to k mask → mask ≡ 0 → (b : ℕ) → from ≤ b → b < suc k * 64 → wanted b ≡ false
  none_here k mask l none b after before = elim (cases_lt b (k * 64)) [
    | inl low ↦ l.passed b after low
    | inr high ↦
        let i : ℕ = b - k * 64 in
        let offset : k * 64 + i ≡ b = omega arith in
        sym (and_true (wanted b) (leb from b) (le-leb from b after))
        ∙ ap (λ j. wanted j && leb from j) (sym offset) ∙ sym (l.bits i (omega arith)) ∙ ap (λ m. has_bit m i) none ∙ has_bit_zero i
  ]

  pub Looks-more : (k mask next : ℕ) → Looks wanted from to k mask → mask ≡ 0 → k < to / 64 → next < 2 ^ 64
      → ((i : ℕ) → i < 64 → has_bit next i ≡ wanted ((k + 1) * 64 + i)) → Looks wanted from to (k + 1) next
  Looks-more k mask next l none more fits are = record {
    begun = omega (arith, l.begun);
    within = omega arith;
    fits = fits;
    passed = λ b after before. none_here k mask l none b after (omega arith);
    bits = λ i small. are i small
        ∙ sym (and_true (wanted ((k + 1) * 64 + i)) (leb from ((k + 1) * 64 + i)) (le-leb from ((k + 1) * 64 + i) (omega (arith, l.begun))));
  }

  pub none_found : (k mask : ℕ) → Looks wanted from to k mask → mask ≡ 0 → to / 64 ≤ k → (b : ℕ) → from ≤ b → b < to → wanted b ≡ false
  none_found k mask l none last b after before = none_here k mask l none b after (omega (arith, l.within))

  module _ (k mask : ℕ) (l : Looks wanted from to k mask) (some : 0 < mask) where
    lowest_is : (wanted (k * 64 + trailing_zeros w64 mask) ≡ true) × (leb from (k * 64 + trailing_zeros w64 mask) ≡ true)
    lowest_is =
        let t = bit_at-trailing_zeros w64 mask some l.fits in
        and_parts _ _ (sym (l.bits (trailing_zeros w64 mask) t.0) ∙ eq-eqb _ 1 t.1)

    pub offset_after : from ≤ k * 64 + trailing_zeros w64 mask
    offset_after = leb-true _ _ lowest_is.1

    pub offset_wanted : wanted (k * 64 + trailing_zeros w64 mask) ≡ true
    offset_wanted = lowest_is.0

    pub none_before : (b : ℕ) → from ≤ b → b < k * 64 + trailing_zeros w64 mask → wanted b ≡ false
    none_before b after before = elim (cases_lt b (k * 64)) [
      | inl low ↦ l.passed b after low
      | inr high ↦
          let t = bit_at-trailing_zeros w64 mask some l.fits in
          let i : ℕ = b - k * 64 in
          let offset : k * 64 + i ≡ b = omega arith in
          let less : i < trailing_zeros w64 mask = omega arith in
          sym (and_true (wanted b) (leb from b) (le-leb from b after))
          ∙ ap (λ j. wanted j && leb from j) (sym offset) ∙ sym (l.bits i (omega (arith, t.0, less))) ∙ ap (λ x. x == 1) (t.2 i less)
    ]
