-- The bits of masks that are computed.
use Rattle.std.proofs.Common.{◌≡◌, ◌%◌, ◌/◌, ◌*◌, ◌+◌, ℕ, zero, suc, ◌-◌, ◌^◌, ◌<◌, ◌≤◌, min, max, Bool, true, false, cond, not, List, get_or, ◌&&◌, ◌||◌, refl, ap, ◌∙◌, sym, inl, inr, arith, w64, ltb, lt-ltb}
use Rattle.std.proofs.lemmas.Bool.{cases_lt, le-ltb}
use Rattle.std.proofs.lemmas.Nat.Bits.{bit_at-lt, bit_at_and, bit_at_or, bit_at_not, bit_at_ones, bit_at_ones_above, bit_at_above, bit_at-zero, bit_at_cat_low, bit_at_cat_high}
use Rattle.std.proofs.lemmas.Nat.{and_mask, shr-shr}
use Rattle.std.specs.Prelude.{◌==◌, bit_and, bit_or}
use Rattle.std.specs.Int.{bit_at, bit_not}
use Rattle.std.proofs.lemmas.Simd.{bit_mask_l}
use Rattle.std.specs.Simd.Lanes.{mask_l}
use Rattle.std.proofs.Math.Pow.{pow_mono}
use Rattle.lic_trim.specs.PieceLengths.{has_bit}

either : (m n : ℕ) → m < 2 → n < 2 → (max m n == 1) ≡ ((m == 1) || (n == 1))
either zero zero p q = refl
either zero (suc zero) p q = refl
either (suc zero) zero p q = refl
either (suc zero) (suc zero) p q = refl
either (suc (suc m)) n p q = absurd (omega arith)
either m (suc (suc n)) p q = absurd (omega arith)

both : (m n : ℕ) → m < 2 → n < 2 → (min m n == 1) ≡ ((m == 1) && (n == 1))
both zero zero p q = refl
both zero (suc zero) p q = refl
both (suc zero) zero p q = refl
both (suc zero) (suc zero) p q = refl
both (suc (suc m)) n p q = absurd (omega arith)
both m (suc (suc n)) p q = absurd (omega arith)

neither : (m : ℕ) → m < 2 → (1 - m == 1) ≡ not (m == 1)
neither zero p = refl
neither (suc zero) p = refl
neither (suc (suc m)) p = absurd (omega arith)

one_if : (b : Bool) → (cond b 1 0 == 1) ≡ b
one_if true = refl
one_if false = refl

pub has_bit-mask_l : (flags : List Bool) (k : ℕ) → has_bit (mask_l flags) k ≡ get_or flags k false
has_bit-mask_l flags k = ap (λ n. n == 1) (bit_mask_l flags k) ∙ one_if (get_or flags k false)

pub has_bit_and : (a b k : ℕ) → has_bit (bit_and a b) k ≡ (has_bit a k && has_bit b k)
has_bit_and a b k = ap (λ n. n == 1) (bit_at_and a b k) ∙ both (bit_at a k) (bit_at b k) (bit_at-lt a k) (bit_at-lt b k)

pub has_bit_or : (a b k : ℕ) → has_bit (bit_or a b) k ≡ (has_bit a k || has_bit b k)
has_bit_or a b k = ap (λ n. n == 1) (bit_at_or a b k) ∙ either (bit_at a k) (bit_at b k) (bit_at-lt a k) (bit_at-lt b k)

pub has_bit_not : (a k : ℕ) → a < 2 ^ 64 → k < 64 → has_bit (bit_not w64 a) k ≡ not (has_bit a k)
has_bit_not a k fits small = ap (λ n. n == 1) (bit_at_not w64 a k fits small) ∙ neither (bit_at a k) (bit_at-lt a k)

pub has_bit_zero : (k : ℕ) → has_bit 0 k ≡ false
has_bit_zero k = ap (λ n. n == 1) (bit_at-zero k)

pub has_bit_above : (mask n k : ℕ) → mask < 2 ^ n → n ≤ k → has_bit mask k ≡ false
has_bit_above mask n k fits past = ap (λ m. m == 1) (bit_at_above mask n k fits past)

pub has_bit_below : (n k : ℕ) → has_bit (2 ^ n - 1) k ≡ ltb k n
has_bit_below n k = elim (cases_lt k n) [
  | inl low ↦ ap (λ m. m == 1) (bit_at_ones n k low) ∙ sym (lt-ltb k n low)
  | inr high ↦ ap (λ m. m == 1) (bit_at_ones_above n k high) ∙ sym (le-ltb k n high)
]

-- ---- shifts

has_bit_mod : (x i : ℕ) → i < 64 → has_bit (x % 2 ^ 64) i ≡ has_bit x i
has_bit_mod x i small =
    ap (λ m. has_bit m i) (sym (and_mask x 64)) ∙ has_bit_and x (2 ^ 64 - 1) i
    ∙ ap (λ t. has_bit x i && t) (has_bit_below 64 i ∙ lt-ltb i 64 small) ∙ and-true (has_bit x i)
  where
    and-true : (t : Bool) → (t && true) ≡ t
    and-true true = refl
    and-true false = refl

pub has_bit_shl : (x s i j : ℕ) → i + s ≡ j → j < 64 → has_bit (x * 2 ^ s % 2 ^ 64) j ≡ has_bit x i
has_bit_shl x s i j e small =
    has_bit_mod (x * 2 ^ s) j small
    ∙ ap (λ m. has_bit m j) (let f : x * 2 ^ s ≡ x * 2 ^ s + 0 = omega arith in f)
    ∙ ap (λ n. n == 1) (bit_at_cat_high x s 0 j (pow_pos s) (omega arith))
    ∙ ap (λ k. has_bit x k) (let f : j - s ≡ i = omega arith in f)
  where
    pow_pos : (s : ℕ) → 0 < 2 ^ s
    pow_pos s = let f : 2 ^ 0 ≤ 2 ^ s = pow_mono {i = 0} {j = s} (omega arith) in omega arith

pub has_bit_shl_low : (x s j : ℕ) → j < s → j < 64 → has_bit (x * 2 ^ s % 2 ^ 64) j ≡ false
has_bit_shl_low x s j low small =
    has_bit_mod (x * 2 ^ s) j small
    ∙ ap (λ m. has_bit m j) (let f : x * 2 ^ s ≡ x * 2 ^ s + 0 = omega arith in f)
    ∙ ap (λ n. n == 1) (bit_at_cat_low x s 0 j low) ∙ has_bit_zero j

pub has_bit_shr : (x s i : ℕ) → has_bit (x / 2 ^ s) i ≡ has_bit x (s + i)
has_bit_shr x s i = ap (λ n. n % 2 == 1) (shr-shr x s i)
