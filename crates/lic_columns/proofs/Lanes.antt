-- Vectors of 64 bytes, lane by lane.
use Rattle.std.proofs.Common.{◌≡◌, ℕ, ◌+◌, ◌*◌, ◌/◌, ◌%◌, ◌^◌, ◌<◌, Bool, true, false, cond, eqb, List, [], ◌∷◌, map, length, get_or, replicate, bit_and, refl, sym, ap, ◌∙◌, subst, arith, w8, Fits, eqb-true}
use Rattle.std.proofs.lemmas.List.{get_or-map, length-map, ext_get_or}
use Rattle.std.proofs.lemmas.Nat.{and_le_r}
use Rattle.std.proofs.lemmas.Simd.{Each1-all, Each1-weaker, Each1-zip2, Each2-splat, below_from_Fits, length-zip2, mask_l-mod, swz_l, SwzOk, SwzOk-from_below, length-swz_l, get_or-swz_l_below, tops_compared, get_or-zip2}
use lib.Lanes.{zip2, sel_l, mask_l, top, Each1}
use Rattle.lic_letters.proofs.Lanes.{lane_fits, below, every_below, down, all_ones, tops, mask_of}
use Rattle.lic_columns.specs.Masks.{IsMask}
use Rattle.lic_columns.proofs.MaskLemmas.{IsMask-mask_l}
use Rattle.lic_trim.specs.PieceLengths.{has_bit}

abbrev pub IsBlock : List ℕ → Type 0
IsBlock v = (length v ≡ 64) × Each1 (Fits w8) v

-- functions that agree on bytes
pub map_same : {A : Type 0} (f g : ℕ → A) → ((b : ℕ) → b < 256 → f b ≡ g b) → (v : List ℕ) → Each1 (Fits w8) v → map f v ≡ map g v
map_same f g same [] h = refl
map_same f g same (x ∷ xs) h = ap (λ y. y ∷ map f xs) (same x h.0.fits) ∙ ap (λ ys. g x ∷ ys) (map_same f g same xs h.1)

-- ---- look-ups

pub high_ok : (v : List ℕ) → IsBlock v → SwzOk w8 16 64 0 (zip2 down v (replicate 64 4))
high_ok v fits =
    let small = Each1-weaker (λ a. a < 256) (λ a. a / 16 < 16) (λ a h. omega arith) v (below_from_Fits w8 v fits.1) in
    SwzOk-from_below w8 16 4 64 0 (zip2 down v (replicate 64 4)) refl (omega (arith, length-zip2 down v (replicate 64 4) fits.0))
    (Each1-zip2 down (λ j. j < 16) v (replicate 64 4) (Each2-splat (λ a b. down a b < 16) v 64 4 small))

pub low_ok : (v : List ℕ) → IsBlock v → SwzOk w8 16 64 0 (zip2 bit_and v (replicate 64 15))
low_ok v fits =
    let small = Each1-all (λ a. bit_and a 15 < 16) (λ a. omega (arith, and_le_r a 15)) v in
    SwzOk-from_below w8 16 4 64 0 (zip2 bit_and v (replicate 64 15)) refl (omega (arith, length-zip2 bit_and v (replicate 64 15) fits.0))
    (Each1-zip2 bit_and (λ j. j < 16) v (replicate 64 15) (Each2-splat (λ a b. bit_and a b < 16) v 64 15 small))

-- in each quarter of the table are the first sixteen entries
abbrev four_alike : List ℕ → ℕ → ℕ → Bool
four_alike t i j = eqb (get_or t (16 * ((0 + i) / 16) + j) 0) (get_or t j 0)

abbrev pub quarters_alike : List ℕ → Bool
quarters_alike t = below (λ i. below (four_alike t i) 16) 64

-- a table of four equal quarters, read at offsets g x below 16
pub looked_up : (t : List ℕ) (g : ℕ → ℕ) (v js : List ℕ) → IsBlock v → js ≡ map g v → ((x : ℕ) → x < 256 → g x < 16)
    → quarters_alike t ≡ true → swz_l w8 16 t 0 js ≡ map (λ x. get_or t (g x) 0) v
looked_up t g v js fits e small alike =
    let long : length js ≡ 64 = ap length e ∙ length-map v g ∙ fits.0 in
    ext_get_or 0 _ _ (length-swz_l w8 16 t 0 js ∙ long ∙ sym (length-map v (λ x. get_or t (g x) 0) ∙ fits.0)) (λ i h.
    let lt : i < 64 = omega (arith, length-swz_l w8 16 t 0 js) in
    let within : i < length v = omega (arith, fits.0) in
    let is : get_or js i 0 ≡ g (get_or v i 0) = ap (λ l. get_or l i 0) e ∙ get_or-map g v i 0 0 within in
    let small_here : get_or js i 0 < 16 = omega (arith, small (get_or v i 0) (lane_fits v i fits.1)) in
    let row = every_below (λ a. below (four_alike t a) 16) 64 alike i lt in
    get_or-swz_l_below w8 16 t 0 js i (omega arith) small_here
    ∙ eqb-true _ _ (every_below (four_alike t i) 16 row (get_or js i 0) small_here)
    ∙ ap (λ k. get_or t k 0) is ∙ sym (get_or-map (λ x. get_or t (g x) 0) v i 0 0 within))

-- ---- comparisons

pub IsMask-compared : (p : ℕ → Bool) (xs zs : List ℕ) → length xs ≡ 64 → zs ≡ map (λ x. all_ones (p x)) xs
    → IsMask (mask_l (map (top 7) zs) % 2 ^ 64) (map p xs)
IsMask-compared p xs zs long e =
    subst (λ m. IsMask m (map p xs)) (sym (mask_of p xs zs (omega (arith, long)) e)) (IsMask-mask_l (map p xs))

chosen : (p : ℕ → Bool) (g h : ℕ → ℕ) (xs : List ℕ) → sel_l (map p xs) (map g xs) (map h xs) ≡ map (λ x. cond (p x) (g x) (h x)) xs
chosen p g h [] = refl
chosen p g h (x ∷ xs) = ap (λ l. cond (p x) (g x) (h x) ∷ l) (chosen p g h xs)

-- a choice by a comparison
pub select_is : (p : ℕ → Bool) (g h : ℕ → ℕ) (xs zs gs hs : List ℕ) → zs ≡ map (λ x. all_ones (p x)) xs → gs ≡ map g xs → hs ≡ map h xs
    → sel_l (map (top 7) zs) gs hs ≡ map (λ x. cond (p x) (g x) (h x)) xs
select_is p g h xs zs gs hs e a b =
    ap (λ l. sel_l (map (top 7) l) gs hs) e ∙ ap (λ l. sel_l l gs hs) (tops p xs)
    ∙ ap (λ l. sel_l (map p xs) l hs) a ∙ ap (λ l. sel_l (map p xs) (map g xs) l) b ∙ chosen p g h xs

-- the mask of where two vectors are the same
pub has_bit-same : (xs ys : List ℕ) (i : ℕ) → length xs ≡ 64 → length ys ≡ 64 → i < 64
    → has_bit (mask_l (map (top 7) (zip2 (λ a b. all_ones (eqb a b)) xs ys)) % 2 ^ 64) i ≡ eqb (get_or xs i 0) (get_or ys i 0)
has_bit-same xs ys i long same small =
    let size : length (zip2 eqb xs ys) ≡ 64 = length-zip2 eqb xs ys (long ∙ sym same) ∙ long in
    ap (λ l. has_bit (mask_l l % 2 ^ 64) i) (tops_compared w8 eqb xs ys)
    ∙ ap (λ m. has_bit m i) (mask_l-mod (zip2 eqb xs ys) 64 (omega arith))
    ∙ (IsMask-mask_l (zip2 eqb xs ys)).bit i
    ∙ get_or-zip2 eqb xs ys i 0 0 false (omega arith) (omega arith)
