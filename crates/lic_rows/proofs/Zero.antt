-- Whether four words are zero.
use Rattle.std.proofs.Common.{◌≡◌, ℕ, zero, suc, ◌+◌, ◌-◌, ◌%◌, ◌^◌, ◌<◌, ◌≤◌, List, [], ◌∷◌, map, get_or, length, refl, ap, sym, ◌∙◌, arith, eqb, w64, Bool, true, false, not, cond}
use Rattle.std.proofs.lemmas.Bool.{ne_eqb}
use Rattle.std.proofs.lemmas.Simd.{bitmask_splat, none_from_empty_mask, length-chunk, get_or-chunk}
use lib.Lanes.{mask_l, top, zip2, chunk}
use Rattle.std.specs.Prelude.{replicate}

abbrev pub differs : ℕ → ℕ → Bool
differs a b = not (eqb a b)

-- what the test reads
abbrev pub tested : List ℕ → ℕ → ℕ
tested xs at = mask_l (map (top 63) (zip2 (λ a b. cond (differs a b) (2 ^ 64 - 1) 0) (chunk at 4 xs) (replicate 4 0))) % 2 ^ 64

pub tested_is : (xs : List ℕ) (at : ℕ) → at + 4 ≤ length xs → tested xs at ≡ mask_l (map (λ x. differs x 0) (chunk at 4 xs))
tested_is xs at fits = bitmask_splat w64 differs (chunk at 4 xs) 4 0 (length-chunk at 4 xs fits) (omega arith)

same_is_zero : (x : ℕ) → differs x 0 ≡ false → x ≡ 0
same_is_zero zero h = refl
same_is_zero (suc x) h = absurd (let d : differs (suc x) 0 ≡ true = ap not (ne_eqb (suc x) 0 (λ e. omega arith)) in let e : true ≡ false = sym d ∙ h in cc)

pub all_zero : (xs : List ℕ) (at : ℕ) → at + 4 ≤ length xs → tested xs at ≡ 0 → (k : ℕ) → at ≤ k → k < at + 4 → get_or xs k 0 ≡ 0
all_zero xs at fits none k low high =
    same_is_zero (get_or xs k 0) (none_from_empty_mask (λ x. differs x 0) xs at 4 0 fits (sym (tested_is xs at fits) ∙ none) k low high)

some_lane : (xs : List ℕ) → 0 < mask_l (map (λ x. differs x 0) xs) → (j : ℕ) × (j < length xs) × (0 < get_or xs j 0)
some_lane [] h = absurd (omega arith)
some_lane (zero ∷ xs) h = let r = some_lane xs (omega arith) in (suc r.0, omega (arith, r.1), r.2)
some_lane (suc x ∷ xs) h = (0, omega arith, omega arith)

pub some_set : (xs : List ℕ) (at : ℕ) → at + 4 ≤ length xs → 0 < tested xs at → (k : ℕ) × (at ≤ k) × (k < at + 4) × (0 < get_or xs k 0)
some_set xs at fits some =
    let got = some_lane (chunk at 4 xs) (rw (tested_is xs at fits) at some) in
    let len : length (chunk at 4 xs) ≡ 4 = length-chunk at 4 xs fits in
    let j : got.0 < 4 = omega (arith, got.1) in
    (at + got.0, omega arith, omega arith, rw (get_or-chunk at 4 xs got.0 0 j) at got.2)
