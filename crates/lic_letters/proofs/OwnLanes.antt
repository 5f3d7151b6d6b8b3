-- Vectors of 16 bytes, lane by lane, and the lowest lane without a bit.
use Rattle.std.proofs.Common.{◌≡◌, ℕ, ◌+◌, ◌-◌, ◌*◌, ◌/◌, ◌%◌, ◌^◌, ◌<◌, ◌≤◌, Bool, true, false, not, ◌==◌, List, map, length, get_or, replicate, bit_and, refl, sym, ap, ◌∙◌, arith, inl, inr, ltb, w8, w64, Fits}
use Rattle.std.specs.Int.{bit_not, trailing_zeros}
use Rattle.std.proofs.lemmas.Bool.{agree_below_at, cases_eq}
use Rattle.std.proofs.lemmas.List.{get_or-map, get_or_past, length-map, ext_get_or}
use Rattle.std.proofs.lemmas.Nat.{and_le_r}
use Rattle.std.proofs.lemmas.Nat.Bits.{bit_at-trailing_zeros}
use Rattle.std.proofs.lemmas.Simd.{Each1-all, Each1-weaker, Each1-zip2, Each2-splat, below_from_Fits, length-zip2, swz_l, SwzOk, SwzOk-from_below, length-swz_l, get_or-swz_l_below, zip2_of_maps, zip2_splat}
use lib.Lanes.{zip2, mask_l, top, Each1}
use Rattle.lic_letters.specs.OwnLetters.{class_in, continues}
use Rattle.lic_letters.proofs.BitLemmas.{has_bit-mask_l, has_bit_not, has_bit_zero}
use Rattle.lic_letters.proofs.Lanes.{all_ones, down, lane_fits, mask_of}
use Rattle.lic_trim.specs.PieceLengths.{has_bit}

abbrev pub AreSixteen : List ℕ → Type 0
AreSixteen v = (length v ≡ 16) × Each1 (Fits w8) v

-- ---- the bits of a comparison

pub bit_compared : (p : ℕ → Bool) (xs zs : List ℕ) (i : ℕ) → length xs ≤ 64 → zs ≡ map (λ x. all_ones (p x)) xs → i < length xs
    → has_bit (mask_l (map (top 7) zs) % 2 ^ 64) i ≡ p (get_or xs i 0)
bit_compared p xs zs i few e inside =
    ap (λ m. has_bit m i) (mask_of p xs zs few e) ∙ has_bit-mask_l (map p xs) i ∙ get_or-map p xs i 0 false inside

pub bit_past : (p : ℕ → Bool) (xs zs : List ℕ) (i : ℕ) → length xs ≤ 64 → zs ≡ map (λ x. all_ones (p x)) xs → length xs ≤ i
    → has_bit (mask_l (map (top 7) zs) % 2 ^ 64) i ≡ false
bit_past p xs zs i few e past =
    ap (λ m. has_bit m i) (mask_of p xs zs few e) ∙ has_bit-mask_l (map p xs) i
    ∙ get_or_past (map p xs) i false (omega (arith, length-map xs p, past))

-- a byte that goes on with a character, as it is computed
abbrev pub is_on : ℕ → Bool
is_on b = ltb ((b + (2 ^ 8 - 128)) % 2 ^ 8) 64

pub is_on-continues : (b : ℕ) → b < 256 → is_on b ≡ continues b
is_on-continues b small = agree_below_at is_on continues 256 b refl small

-- ---- look-ups

pub low_fits : (v : List ℕ) → AreSixteen v → SwzOk w8 16 16 0 (zip2 bit_and v (replicate 16 15))
low_fits v fits =
    let small = Each1-all (λ a. bit_and a 15 < 16) (λ a. omega (arith, and_le_r a 15)) v in
    SwzOk-from_below w8 16 1 16 0 (zip2 bit_and v (replicate 16 15)) refl (omega (arith, length-zip2 bit_and v (replicate 16 15) fits.0))
    (Each1-zip2 bit_and (λ j. j < 16) v (replicate 16 15) (Each2-splat (λ a b. bit_and a b < 16) v 16 15 small))

pub high_fits : (v : List ℕ) → AreSixteen v → SwzOk w8 16 16 0 (zip2 down v (replicate 16 4))
high_fits v fits =
    let small = Each1-weaker (λ a. a < 256) (λ a. a / 16 < 16) (λ a h. omega arith) v (below_from_Fits w8 v fits.1) in
    SwzOk-from_below w8 16 1 16 0 (zip2 down v (replicate 16 4)) refl (omega (arith, length-zip2 down v (replicate 16 4) fits.0))
    (Each1-zip2 down (λ j. j < 16) v (replicate 16 4) (Each2-splat (λ a b. down a b < 16) v 16 4 small))

-- a table of sixteen entries, read at offsets g x below 16
found : (t : List ℕ) (g : ℕ → ℕ) (v js : List ℕ) → AreSixteen v → js ≡ map g v → ((x : ℕ) → x < 256 → g x < 16)
    → swz_l w8 16 t 0 js ≡ map (λ x. get_or t (g x) 0) v
found t g v js fits e small =
    let long : length js ≡ 16 = ap length e ∙ length-map v g ∙ fits.0 in
    ext_get_or 0 _ _ (length-swz_l w8 16 t 0 js ∙ long ∙ sym (length-map v (λ x. get_or t (g x) 0) ∙ fits.0)) (λ i h.
    let lt : i < 16 = omega (arith, length-swz_l w8 16 t 0 js) in
    let within : i < length v = omega (arith, fits.0) in
    let is : get_or js i 0 ≡ g (get_or v i 0) = ap (λ l. get_or l i 0) e ∙ get_or-map g v i 0 0 within in
    let small_here : get_or js i 0 < 16 = omega (arith, small (get_or v i 0) (lane_fits v i fits.1)) in
    let slot : 16 * ((0 + i) / 16) + get_or js i 0 ≡ g (get_or v i 0) = omega (arith, lt, is) in
    get_or-swz_l_below w8 16 t 0 js i (omega arith) small_here
    ∙ ap (λ k. get_or t k 0) slot ∙ sym (get_or-map (λ x. get_or t (g x) 0) v i 0 0 within))

pub classes_are : (low high v : List ℕ) → AreSixteen v
    → zip2 bit_and (swz_l w8 16 low 0 (zip2 bit_and v (replicate 16 15))) (swz_l w8 16 high 0 (zip2 down v (replicate 16 4))) ≡ map (class_in low high) v
classes_are low high v fits =
    zip2_of_maps bit_and (λ b. get_or low (bit_and b 15) 0) (λ b. get_or high (b / 16) 0) v
    (found low (λ x. bit_and x 15) v _ fits (zip2_splat bit_and v 16 15 fits.0) (λ x h. omega (arith, and_le_r x 15)))
    (found high (λ x. x / 16) v _ fits (zip2_splat down v 16 4 fits.0) (λ x h. omega arith))

-- ---- the lowest lane without a bit

some_bit : (m k : ℕ) → has_bit m k ≡ true → 0 < m
some_bit m k is = elim (cases_eq m 0) [
  | inl none ↦ absurd (let clash : false ≡ true = sym (has_bit_zero k) ∙ ap (λ n. has_bit n k) (sym none) ∙ is in cc)
  | inr some ↦ omega (arith, some)
]

off : (t : Bool) → not t ≡ true → t ≡ false
off false h = refl
off true h = absurd (let clash : false ≡ true = h in cc)

on : (t : Bool) → not t ≡ false → t ≡ true
on true h = refl
on false h = absurd (let clash : true ≡ false = h in cc)

pub record IsLowestZero (mask n : ℕ) : Type 0 where
  pub within : n < 64
  pub zero : has_bit mask n ≡ false
  pub below : (i : ℕ) → i < n → has_bit mask i ≡ true

pub lowest_zero : (mask : ℕ) → mask < 2 ^ 64 → has_bit mask 63 ≡ false → IsLowestZero mask (trailing_zeros w64 (bit_not w64 mask))
lowest_zero mask fits top =
    let other = bit_not w64 mask in
    let some : 0 < other = some_bit other 63 (has_bit_not mask 63 fits (omega arith) ∙ ap not top) in
    let small : other < 2 ^ 64 = omega arith in
    let t = bit_at-trailing_zeros w64 other some small in
    record {
      within = t.0;
      zero = off (has_bit mask (trailing_zeros w64 other)) (sym (has_bit_not mask (trailing_zeros w64 other) fits t.0) ∙ ap (λ n. n == 1) t.1);
      below = λ i lt. on (has_bit mask i) (sym (has_bit_not mask i fits (omega (arith, lt, t.0))) ∙ ap (λ n. n == 1) (t.2 i lt));
    }
