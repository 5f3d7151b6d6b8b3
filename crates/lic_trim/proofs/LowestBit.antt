-- A mask without its lowest bit.
use Rattle.std.proofs.Common.{◌≡◌, ◌≢◌, ℕ, suc, ◌+◌, ◌-◌, ◌*◌, ◌/◌, ◌%◌, ◌^◌, ◌<◌, ◌≤◌, min, ap, sym, ◌∙◌, arith, inl, inr, w64}
use Rattle.std.proofs.Math.Nat.{pow-suc}
use Rattle.std.proofs.Math.Pow.{pow_mono}
use Rattle.std.proofs.lemmas.Bool.{cases_eq, cases_lt}
use Rattle.std.proofs.lemmas.Nat.{shr-shr, and_le_r}
use Rattle.std.proofs.lemmas.Nat.Bits.{same_from_bits, bit_at-trailing_zeros, bit_at-pow_same, bit_at-pow_other, bit_at_cat_low, bit_at_cat_high, bit_at_ones_above, bit_at_and}
use Rattle.std.specs.Prelude.{bit_and}
use Rattle.std.specs.Int.{bit_at, trailing_zeros}

-- it is what the mask and the number before it have in common
abbrev pub without_lowest : ℕ → ℕ
without_lowest mask = bit_and mask (mask - 1)

power_grows : (t : ℕ) → (0 < 2 ^ t) × (2 ^ t < 2 ^ (t + 1))
power_grows t =
    let some : 2 ^ 0 ≤ 2 ^ t = pow_mono {i = 0} {j = t} (omega arith) in
    let twice : 2 ^ (t + 1) ≡ 2 ^ t * 2 = ap (λ n. 2 ^ n) (let e : t + 1 ≡ suc t = omega arith in e) ∙ pow-suc 2 t in
    (omega arith, omega arith)

least_none : (a : ℕ) → min a 0 ≡ 0
least_none a = omega arith

module _ (mask : ℕ) (some : 0 < mask) (fits : mask < 2 ^ 64) where
  -- the bits above the lowest
  abbrev above : ℕ → ℕ
  above t = mask / 2 ^ (t + 1)

  bits_above : (t i : ℕ) → t + 1 ≤ i → bit_at (above t) (i - (t + 1)) ≡ bit_at mask i
  bits_above t i high = ap (λ n. n % 2) (shr-shr mask (t + 1) (i - (t + 1))) ∙ ap (bit_at mask) (let e : t + 1 + (i - (t + 1)) ≡ i = omega arith in e)

  parts : mask ≡ above (trailing_zeros w64 mask) * 2 ^ (trailing_zeros w64 mask + 1) + 2 ^ trailing_zeros w64 mask
  parts =
      let t = trailing_zeros w64 mask in
      let found = bit_at-trailing_zeros w64 mask some fits in
      same_from_bits mask (above t * 2 ^ (t + 1) + 2 ^ t) (λ i. elim (cases_lt i (t + 1)) [
        | inl low ↦ elim (cases_eq i t) [
          | inl here ↦
              ap (bit_at mask) here ∙ found.1
              ∙ sym (bit_at_cat_low (above t) (t + 1) (2 ^ t) i low ∙ ap (bit_at (2 ^ t)) here ∙ bit_at-pow_same t)
          | inr other ↦
              found.2 i (omega (arith, other))
              ∙ sym (bit_at_cat_low (above t) (t + 1) (2 ^ t) i low ∙ bit_at-pow_other t i other)
        ]
        | inr high ↦
            sym (bit_at_cat_high (above t) (t + 1) (2 ^ t) i (power_grows t).1 high ∙ bits_above t i high)
      ])

  before : mask - 1 ≡ above (trailing_zeros w64 mask) * 2 ^ (trailing_zeros w64 mask + 1) + (2 ^ trailing_zeros w64 mask - 1)
  before = omega (arith, parts, (power_grows (trailing_zeros w64 mask)).0)

  pub lowest_cleared : bit_at (without_lowest mask) (trailing_zeros w64 mask) ≡ 0
  lowest_cleared =
      let t = trailing_zeros w64 mask in
      bit_at_and mask (mask - 1) t
      ∙ ap (λ b. min (bit_at mask t) b) (ap (λ n. bit_at n t) before
      ∙ bit_at_cat_low (above t) (t + 1) (2 ^ t - 1) t (omega arith) ∙ bit_at_ones_above t t (omega arith))
      ∙ least_none (bit_at mask t)

  pub others_stay : (i : ℕ) → i ≢ trailing_zeros w64 mask → bit_at (without_lowest mask) i ≡ bit_at mask i
  others_stay i other =
      let t = trailing_zeros w64 mask in
      let found = bit_at-trailing_zeros w64 mask some fits in
      bit_at_and mask (mask - 1) i ∙ elim (cases_lt i t) [
        | inl low ↦
            let none : bit_at mask i ≡ 0 = found.2 i low in
            omega (arith, none)
        | inr high ↦
            let grows = power_grows t in
            let same : bit_at (mask - 1) i ≡ bit_at mask i =
            ap (λ n. bit_at n i) before
            ∙ bit_at_cat_high (above t) (t + 1) (2 ^ t - 1) i (omega (arith, grows.0, grows.1)) (omega (arith, other, high))
            ∙ bits_above t i (omega (arith, other, high)) in
            ap (λ b. min (bit_at mask i) b) same ∙ (let e : min (bit_at mask i) (bit_at mask i) ≡ bit_at mask i = omega arith in e)
      ]

  pub smaller : without_lowest mask < mask
  smaller = omega (arith, and_le_r mask (mask - 1), some)
