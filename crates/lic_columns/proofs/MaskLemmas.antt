-- Masks and the lists of flags that they are of.
use Rattle.std.proofs.Common.{◌≡◌, ℕ, zero, suc, ◌<◌, ◌^◌, Bool, List, length, refl, ◌∙◌, sym, subst, arith}
use Rattle.std.proofs.lemmas.Simd.{mask_l-lt}
use Rattle.std.proofs.lemmas.Nat.Bits.{same_from_bits, bit_at-lt}
use Rattle.std.specs.Prelude.{◌==◌}
use Rattle.std.specs.Int.{bit_at}
use Rattle.std.specs.Simd.Lanes.{mask_l}
use Rattle.lic_letters.proofs.BitLemmas.{has_bit-mask_l}
use Rattle.lic_columns.specs.Masks.{IsMask}
use Rattle.lic_trim.specs.PieceLengths.{has_bit}

pub IsMask-mask_l : (flags : List Bool) → IsMask (mask_l flags) flags
IsMask-mask_l flags = record { bit = has_bit-mask_l flags }

same_bit : (m n : ℕ) → m < 2 → n < 2 → (m == 1) ≡ (n == 1) → m ≡ n
same_bit zero zero p q e = refl
same_bit zero (suc zero) p q e = absurd cc
same_bit (suc zero) zero p q e = absurd cc
same_bit (suc zero) (suc zero) p q e = refl
same_bit (suc (suc m)) n p q e = absurd (omega arith)
same_bit m (suc (suc n)) p q e = absurd (omega arith)

-- two masks with the same bits are one
pub same_masks : (m n : ℕ) → ((k : ℕ) → has_bit m k ≡ has_bit n k) → m ≡ n
same_masks m n same = same_from_bits m n (λ i. same_bit (bit_at m i) (bit_at n i) (bit_at-lt m i) (bit_at-lt n i) (same i))

pub mask_is : (mask : ℕ) (flags : List Bool) → IsMask mask flags → mask ≡ mask_l flags
mask_is mask flags is = same_masks mask (mask_l flags) (λ k. is.bit k ∙ sym ((IsMask-mask_l flags).bit k))

pub mask-lt : (mask : ℕ) (flags : List Bool) → IsMask mask flags → mask < 2 ^ length flags
mask-lt mask flags is = let e : mask ≡ mask_l flags = mask_is mask flags is in subst (λ m. m < 2 ^ length flags) (sym e) (mask_l-lt flags)
