-- Vector operations, lane by lane.
use Rattle.std.proofs.Common.{◌≡◌, ℕ, zero, suc, ◌-◌, ◌/◌, ◌%◌, ◌^◌, ◌<◌, ◌≤◌, Bool, true, false, cond, ◌&&◌, inl, inr, List, [], ◌∷◌, map, length, get_or, refl, ap, ◌∙◌, arith, w8, Fits}
use Rattle.std.proofs.lemmas.List.{length-map}
use Rattle.std.proofs.lemmas.Bool.{cases_eq, and_parts}
use Rattle.std.proofs.lemmas.Simd.{mask_l-mod}
use lib.Lanes.{mask_l, top, Each1}

pub lane_fits : (v : List ℕ) (i : ℕ) → Each1 (Fits w8) v → get_or v i 0 < 256
lane_fits [] i h = omega arith
lane_fits (x ∷ xs) zero h = h.0.fits
lane_fits (x ∷ xs) (suc i) h = lane_fits xs i h.1

-- what holds of each number below n, by computing
abbrev pub below : (ℕ → Bool) → ℕ → Bool
below p zero = true
below p (suc n) = p n && below p n

pub every_below : (p : ℕ → Bool) (n : ℕ) → below p n ≡ true → (i : ℕ) → i < n → p i ≡ true
every_below p zero h i l = absurd (omega arith)
every_below p (suc n) h i l = elim (cases_eq i n) [
  | inl same ↦ ap p same ∙ (and_parts (p n) (below p n) h).0
  | inr other ↦ every_below p n (and_parts (p n) (below p n) h).1 i (omega (arith, other))
]

abbrev pub down : ℕ → ℕ → ℕ
down a b = a / 2 ^ b

-- ---- comparisons

abbrev pub all_ones : Bool → ℕ
all_ones b = cond b (2 ^ 8 - 1) 0

top_is : (b : Bool) → top 7 (all_ones b) ≡ b
top_is true = refl
top_is false = refl

pub tops : (p : ℕ → Bool) (xs : List ℕ) → map (top 7) (map (λ x. all_ones (p x)) xs) ≡ map p xs
tops p [] = refl
tops p (x ∷ xs) = ap (λ b. b ∷ map (top 7) (map (λ x. all_ones (p x)) xs)) (top_is (p x)) ∙ ap (λ bs. p x ∷ bs) (tops p xs)

-- the mask of a comparison
pub mask_of : (p : ℕ → Bool) (xs zs : List ℕ) → length xs ≤ 64 → zs ≡ map (λ x. all_ones (p x)) xs
    → mask_l (map (top 7) zs) % 2 ^ 64 ≡ mask_l (map p xs)
mask_of p xs zs few e =
    ap (λ l. mask_l l % 2 ^ 64) (ap (map (top 7)) e ∙ tops p xs) ∙ mask_l-mod (map p xs) 64 (omega (arith, few, length-map xs p))
