-- Bytes that begin characters.
use Rattle.std.proofs.Common.{◌≡◌, ℕ, suc, ◌+◌, ◌-◌, ◌/◌, ◌%◌, ◌<◌, ◌≤◌, Bool, true, false, cond, ltb, List, [], ◌∷◌, ◌++◌, take, drop, refl, ap, ◌∙◌, arith, count_by, slice_range, take-add, ltb-true, mod-lt, lit<}
use Rattle.std.proofs.lemmas.Bool.Decides.{nat_tests}
use Rattle.std.proofs.lemmas.List.{drop-drop}
use Rattle.std.proofs.lemmas.List.Sums.{sum_by-cons}
use Rattle.std.specs.Char.{encode_utf8}
use Rattle.lic_vars.specs.Counts.{begins_character}

-- ---- one byte

pub begins-ascii : (b : ℕ) → b < 128 → begins_character b ≡ true
begins-ascii b h = grind (arith, nat_tests)

pub begins-lead : (b : ℕ) → 192 ≤ b → begins_character b ≡ true
begins-lead b h = grind (arith, nat_tests)

pub begins-within : (b : ℕ) → 128 ≤ b → b < 192 → begins_character b ≡ false
begins-within b h k = grind (arith, nat_tests)

next-false : (n : ℕ) → begins_character (128 + n % 64) ≡ false
next-false n = let m : n % 64 < 64 = mod-lt n (lit< tt) in begins-within (128 + n % 64) (omega arith) (omega arith)

-- ---- lists of bytes

abbrev pub as_count : Bool → ℕ
as_count b = cond b 1 0

count-yes : (b : ℕ) (bs : List ℕ) → begins_character b ≡ true → count_by begins_character (b ∷ bs) ≡ suc (count_by begins_character bs)
count-yes b bs h =
    let e = sum_by-cons (λ x. cond (begins_character x) 1 0) b bs in
    let f : as_count (begins_character b) ≡ as_count true = ap as_count h in
    omega (arith, e, f)

count-not : (b : ℕ) (bs : List ℕ) → begins_character b ≡ false → count_by begins_character (b ∷ bs) ≡ count_by begins_character bs
count-not b bs h =
    let e = sum_by-cons (λ x. cond (begins_character x) 1 0) b bs in
    let f : as_count (begins_character b) ≡ as_count false = ap as_count h in
    omega (arith, e, f)

-- one byte of a character begins it
pub count-encode : (c : ℕ) → count_by begins_character (encode_utf8 c) ≡ 1
unfolding encode_utf8
count-encode c = by_size (ltb c 128) (ltb c 2048) (ltb c 65536) refl
  where
    last : count_by begins_character ((128 + c % 64) ∷ []) ≡ 0
    last = count-not (128 + c % 64) [] (next-false c)

    two : (n : ℕ) → count_by begins_character ((128 + n % 64) ∷ (128 + c % 64) ∷ []) ≡ 0
    two n = count-not (128 + n % 64) ((128 + c % 64) ∷ []) (next-false n) ∙ last

    three : (m n : ℕ) → count_by begins_character ((128 + m % 64) ∷ (128 + n % 64) ∷ (128 + c % 64) ∷ []) ≡ 0
    three m n = count-not (128 + m % 64) ((128 + n % 64) ∷ (128 + c % 64) ∷ []) (next-false m) ∙ two n

    first : (b : ℕ) (bs : List ℕ) → 192 ≤ b → count_by begins_character bs ≡ 0 → count_by begins_character (b ∷ bs) ≡ 1
    first b bs h none = count-yes b bs (begins-lead b h) ∙ ap suc none

    by_size : (x y z : Bool) → ltb c 128 ≡ x
        → count_by begins_character (cond x (c ∷ [])
        (cond y ((192 + c / 64) ∷ (128 + c % 64) ∷ [])
        (cond z ((224 + c / 4096) ∷ (128 + c / 64 % 64) ∷ (128 + c % 64) ∷ [])
        ((240 + c / 262144) ∷ (128 + c / 4096 % 64) ∷ (128 + c / 64 % 64) ∷ (128 + c % 64) ∷ [])))) ≡ 1
    by_size true y z h = count-yes c [] (begins-ascii c (ltb-true c 128 h))
    by_size false true z h = first (192 + c / 64) ((128 + c % 64) ∷ []) (omega arith) last
    by_size false false true h = first (224 + c / 4096) ((128 + c / 64 % 64) ∷ (128 + c % 64) ∷ []) (omega arith) (two (c / 64))
    by_size false false false h =
        first (240 + c / 262144) ((128 + c / 4096 % 64) ∷ (128 + c / 64 % 64) ∷ (128 + c % 64) ∷ []) (omega arith)
        (three (c / 4096) (c / 64))

-- ---- between two places

pub slice-split : (bs : List ℕ) (p r q : ℕ) → p ≤ r → r ≤ q → slice_range bs p q ≡ slice_range bs p r ++ slice_range bs r q
slice-split bs p r q h k =
    let whole : q - p ≡ (r - p) + (q - r) = omega arith in
    let back : p + (r - p) ≡ r = omega arith in
    ap (λ n. take n (drop p bs)) whole ∙ take-add (r - p) (q - r) (drop p bs)
    ∙ ap (λ l. take (r - p) (drop p bs) ++ take (q - r) l) (drop-drop (r - p) p bs ∙ ap (λ n. drop n bs) back)
