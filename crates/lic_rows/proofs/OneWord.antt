-- The bits of one word.
use Rattle.std.proofs.Common.{◌≡◌, ℕ, ◌-◌, ◌*◌, ◌%◌, ◌^◌, ◌<◌, ◌≤◌, ap, ◌∙◌, arith, min, max, w64}
use Rattle.std.proofs.lemmas.Nat.{one_shl}
use Rattle.std.proofs.lemmas.Nat.Bits.{bit_at_or, bit_at_and, bit_at_not, bit_at_ones, bit_at_ones_above, bit_at-lt}
use Rattle.std.specs.Prelude.{bit_or, bit_and}
use Rattle.std.specs.Int.{bit_at, bit_not}

abbrev pub ones : ℕ → ℕ
ones at = 1 * 2 ^ at % 2 ^ 64 - 1

ones_are : (at : ℕ) → at < 64 → ones at ≡ 2 ^ at - 1
ones_are at small = ap (λ x. x - 1) (one_shl at 64 small)

ones_fit : (at : ℕ) → ones at < 2 ^ 64
ones_fit at = omega arith

low_bit : (at i : ℕ) → at < 64 → i < at → bit_at (ones at) i ≡ 1
low_bit at i small low = ap (λ m. bit_at m i) (ones_are at small) ∙ bit_at_ones at i low

high_bit : (at i : ℕ) → at < 64 → at ≤ i → bit_at (ones at) i ≡ 0
high_bit at i small high = ap (λ m. bit_at m i) (ones_are at small) ∙ bit_at_ones_above at i high

module _ (low high at i : ℕ) (small : at < 64) (within : i < 64) where
  either : bit_at (bit_or (bit_and low (ones at)) (bit_and high (bit_not w64 (ones at)))) i
      ≡ max (min (bit_at low i) (bit_at (ones at) i)) (min (bit_at high i) (1 - bit_at (ones at) i))
  either =
      let not : bit_at (bit_not w64 (ones at)) i ≡ 1 - bit_at (ones at) i = bit_at_not w64 (ones at) i (ones_fit at) within in
      bit_at_or (bit_and low (ones at)) (bit_and high (bit_not w64 (ones at))) i
      ∙ ap (λ x. max x (bit_at (bit_and high (bit_not w64 (ones at))) i)) (bit_at_and low (ones at) i)
      ∙ ap (λ x. max (min (bit_at low i) (bit_at (ones at) i)) x) (bit_at_and high (bit_not w64 (ones at)) i
      ∙ ap (λ x. min (bit_at high i) x) not)

  pub spliced_below : i < at → bit_at (bit_or (bit_and low (ones at)) (bit_and high (bit_not w64 (ones at)))) i ≡ bit_at low i
  spliced_below below = let e = either in let o = low_bit at i small below in let a = bit_at-lt low i in let b = bit_at-lt high i in omega arith

  pub spliced_above : at ≤ i → bit_at (bit_or (bit_and low (ones at)) (bit_and high (bit_not w64 (ones at)))) i ≡ bit_at high i
  spliced_above above = let e = either in let o = high_bit at i small above in let a = bit_at-lt low i in let b = bit_at-lt high i in omega arith

pub fresh_bit : (word other i : ℕ) → word < 2 ^ 64 → i < 64 → bit_at (bit_and other (bit_not w64 word)) i ≡ bit_at other i - bit_at word i
fresh_bit word other i fits within =
    let not : bit_at (bit_not w64 word) i ≡ 1 - bit_at word i = bit_at_not w64 word i fits within in
    let both = bit_at_and other (bit_not w64 word) i in
    let a = bit_at-lt word i in
    let b = bit_at-lt other i in
    omega arith
