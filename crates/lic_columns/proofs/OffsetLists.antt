-- Offsets that are written one after the other, also more than there are.
use Rattle.std.proofs.Common.{◌≡◌, ℕ, zero, suc, ◌+◌, ◌-◌, ◌%◌, ◌^◌, ◌<◌, ◌≤◌, Bool, true, false, List, [], ◌∷◌, ◌++◌, get_or, length, set, take, drop, refl, ap, sym, ◌∙◌, subst, arith, inl, inr, w64}
use Rattle.std.proofs.lemmas.Bool.{cases_eq, cases_lt}
use Rattle.std.proofs.lemmas.List.{ext_get_or, get_or-take, get_or-drop, length-take-le, length-append, get_or-set_same, get_or-set_other, length-set, length-drop, get_or_append_left, get_or-append_right, drop_all}
use Rattle.std.proofs.lemmas.Nat.{and_le_l, ones_le_self}
use Rattle.std.proofs.lemmas.Nat.Bits.{bit_at-trailing_zeros}
use Rattle.std.proofs.lemmas.Simd.{ones-mask_l_cons}
use Rattle.std.specs.Prelude.{bit_and, count_ones, slice_set}
use Rattle.std.specs.Int.{trailing_zeros}
use Rattle.std.specs.Simd.Lanes.{mask_l}
use Rattle.lic_columns.specs.Flags.{bits_of}
use Rattle.lic_columns.specs.Offsets.{offsets}
use Rattle.lic_columns.proofs.MaskLemmas.{mask_is}
use Rattle.lic_columns.proofs.FlagLemmas.{length-bits_of, IsMask-bits_of}
use Rattle.lic_columns.proofs.OffsetLemmas.{first_offset, offsets_of_zero}
use Rattle.lic_trim.proofs.LowestBit.{without_lowest}

-- ---- how many there are

pub length-offsets : (at : ℕ) (flags : List Bool) → length (offsets at flags) ≡ count_ones (mask_l flags)
length-offsets at [] = omega (arith, ones_le_self 0)
length-offsets at (true ∷ flags) = let rest = length-offsets (suc at) flags in let one = ones-mask_l_cons true flags in omega arith
length-offsets at (false ∷ flags) = let rest = length-offsets (suc at) flags in let none = ones-mask_l_cons false flags in omega arith

pub offsets-few : (at : ℕ) (flags : List Bool) → length (offsets at flags) ≤ length flags
offsets-few at [] = omega arith
offsets-few at (true ∷ flags) = let few = offsets-few (suc at) flags in omega arith
offsets-few at (false ∷ flags) = let few = offsets-few (suc at) flags in omega arith

pub offsets_of_mask : (at mask : ℕ) → mask < 2 ^ 64 → length (offsets at (bits_of 64 mask)) ≡ count_ones mask
offsets_of_mask at mask fits = length-offsets at (bits_of 64 mask) ∙ ap count_ones (sym (mask_is mask (bits_of 64 mask) (IsMask-bits_of mask fits)))

-- ---- what is left of a mask after i offsets

drop_tail : (i : ℕ) (listed rest : List ℕ) (x : ℕ) → drop i listed ≡ x ∷ rest → drop (suc i) listed ≡ rest
drop_tail zero [] rest x e = absurd cc
drop_tail zero (y ∷ listed) rest x e = cc
drop_tail (suc i) [] rest x e = absurd cc
drop_tail (suc i) (y ∷ listed) rest x e = drop_tail i listed rest x e

pub record AreLeft (at mask i rest : ℕ) : Type 0 where
  pub fits : rest < 2 ^ 64
  pub left : offsets at (bits_of 64 rest) ≡ drop i (offsets at (bits_of 64 mask))

module _ (at mask i rest : ℕ) (are : AreLeft at mask i rest) where
  -- where none is left, all are written
  pub none_left : rest ≡ 0 → length (offsets at (bits_of 64 mask)) ≤ i
  none_left none =
      let e : drop i (offsets at (bits_of 64 mask)) ≡ [] = sym are.left ∙ ap (λ m. offsets at (bits_of 64 m)) none ∙ offsets_of_zero at in
      omega (arith, ap length e, length-drop i (offsets at (bits_of 64 mask)))

  some_left : 0 < rest → drop i (offsets at (bits_of 64 mask)) ≡ (at + trailing_zeros w64 rest) ∷ offsets at (bits_of 64 (without_lowest rest))
  some_left some = sym are.left ∙ first_offset rest some are.fits at

  -- the next offset is that of the lowest bit
  next_offset : i < length (offsets at (bits_of 64 mask)) → at + 64 ≤ 2 ^ 32
      → (at + trailing_zeros w64 rest) % 2 ^ 32 ≡ get_or (offsets at (bits_of 64 mask)) i 0
  next_offset more fits = elim (cases_eq rest 0) [
    | inl none ↦ absurd (let all = none_left none in omega arith)
    | inr other ↦
        let some : 0 < rest = omega (arith, other) in
        let low = bit_at-trailing_zeros w64 rest some are.fits in
        let listed : get_or (offsets at (bits_of 64 mask)) i 0 ≡ at + trailing_zeros w64 rest =
        ap (λ n. get_or (offsets at (bits_of 64 mask)) n 0) (let e : i ≡ i + 0 = omega arith in e) ∙ sym (get_or-drop i (offsets at (bits_of 64 mask)) 0 0)
        ∙ ap (λ l. get_or l 0 0) (some_left some) in
        omega (arith, listed, low.0, fits)
  ]

  AreLeft-more : AreLeft at mask (i + 1) (bit_and rest (rest - 1))
  AreLeft-more = record {
    fits = omega (arith, and_le_l rest (rest - 1), are.fits);
    left = elim (cases_eq rest 0) [
      | inl none ↦
          let all = none_left none in
          ap (λ m. offsets at (bits_of 64 m)) (let e : bit_and rest (rest - 1) ≡ 0 = omega (arith, and_le_l rest (rest - 1), none) in e) ∙ offsets_of_zero at
          ∙ sym (drop_all (i + 1) (offsets at (bits_of 64 mask)) (omega arith))
      | inr other ↦
          sym (ap (λ n. drop n (offsets at (bits_of 64 mask))) (let e : i + 1 ≡ suc i = omega arith in e)
          ∙ drop_tail i (offsets at (bits_of 64 mask)) _ _ (some_left (omega (arith, other))))
    ];
  }

-- ---- offsets in a list, after the first n

pub record IsPut (listed old : List ℕ) (n i : ℕ) (out : List ℕ) : Type 0 where
  pub size : length out ≡ length old
  pub before : (j : ℕ) → j < n → get_or out j 0 ≡ get_or old j 0
  pub put : (j : ℕ) → j < i → j < length listed → get_or out (n + j) 0 ≡ get_or listed j 0

IsPut-none : (listed old : List ℕ) (n : ℕ) → IsPut listed old n 0 old
IsPut-none listed old n = record { size = refl; before = λ j low. refl; put = λ j low inside. absurd (omega arith) }

IsPut-more : (listed old out : List ℕ) (n i offset x : ℕ) → IsPut listed old n i out → offset ≡ n + i → offset < length out
    → (i < length listed → x ≡ get_or listed i 0) → IsPut listed old n (i + 1) (set out offset x)
IsPut-more listed old out n i offset x is here inside is_offset = record {
  size = length-set out offset x ∙ is.size;
  before = λ j low. get_or-set_other out offset j x 0 (omega arith) ∙ is.before j low;
  put = λ j low within. elim (cases_eq j i) [
    | inl same ↦
        ap (λ k. get_or (set out offset x) k 0) (let e : n + j ≡ offset = omega arith in e) ∙ get_or-set_same out offset x 0 inside
        ∙ is_offset (omega arith) ∙ ap (λ k. get_or listed k 0) (sym same)
    | inr other ↦ get_or-set_other out offset (n + j) x 0 (omega (arith, other)) ∙ is.put j (omega (arith, other)) within
  ];
}

-- ---- offsets that are written, of which some may be left

pub record IsWritten (at mask n i rest : ℕ) (old out : List ℕ) : Type 0 where
  pub left : AreLeft at mask i rest
  pub put : IsPut (offsets at (bits_of 64 mask)) old n i out

pub none_written : (at mask n : ℕ) (old : List ℕ) → mask < 2 ^ 64 → IsWritten at mask n 0 mask old old
none_written at mask n old fits = record { left = record { fits = fits; left = refl }; put = IsPut-none (offsets at (bits_of 64 mask)) old n }

pub one_written : (at mask n i rest offset less : ℕ) (old out new : List ℕ) → IsWritten at mask n i rest old out → at + 64 ≤ 2 ^ 32 → offset ≡ n + i
    → offset < length out → new ≡ slice_set out offset ((at + trailing_zeros w64 rest) % 2 ^ 32) → less ≡ bit_and rest (rest - 1)
    → IsWritten at mask n (i + 1) less old new
one_written at mask n i rest offset less old out new is fits here inside is_new is_less = record {
  left = subst (AreLeft at mask (i + 1)) (sym is_less) (AreLeft-more at mask i rest is.left);
  put = subst (IsPut (offsets at (bits_of 64 mask)) old n (i + 1)) (sym is_new)
      (IsPut-more (offsets at (bits_of 64 mask)) old out n i offset _ is.put here inside (λ more. next_offset at mask i rest is.left more fits));
}

few_offsets : (at mask : ℕ) → length (offsets at (bits_of 64 mask)) ≤ 64
few_offsets at mask = omega (arith, offsets-few at (bits_of 64 mask), length-bits_of 64 mask)

-- four more are within the 64
pub four_inside : (at mask n i rest : ℕ) (old out : List ℕ) → IsWritten at mask n i rest old out → i % 4 ≡ 0 → 0 < rest → i + 4 ≤ 64
four_inside at mask n i rest old out is fours some =
    let e = some_left at mask i rest is.left some in
    omega (arith, fours, ap length e, length-drop i (offsets at (bits_of 64 mask)), few_offsets at mask)

module _ (at mask n i rest : ℕ) (old out : List ℕ) (is : IsWritten at mask n i rest old out) (none : rest ≡ 0) (fits : mask < 2 ^ 64) (bounded : n + 64 ≤ length old) where
  pub all_inside : n + count_ones mask ≤ length out
  all_inside = omega (arith, bounded, is.put.size, offsets_of_mask at mask fits, few_offsets at mask)

  pub all_written : take (n + count_ones mask) out ≡ take n old ++ offsets at (bits_of 64 mask)
  all_written =
      let listed = offsets at (bits_of 64 mask) in
      let count = offsets_of_mask at mask fits in
      let all = none_left at mask i rest is.left none in
      let before : length (take n old) ≡ n = length-take-le n old (omega arith) in
      ext_get_or 0 (take (n + count_ones mask) out) (take n old ++ listed)
      (omega (arith, length-take-le (n + count_ones mask) out all_inside, length-append (take n old) listed, before, count))
      (λ k within.
      let inside : k < n + count_ones mask = omega (arith, length-take-le (n + count_ones mask) out all_inside) in
      get_or-take (n + count_ones mask) out k 0 inside ∙ elim (cases_lt k n) [
        | inl low ↦
            is.put.before k low ∙ sym (get_or-take n old k 0 low) ∙ sym (get_or_append_left (take n old) listed 0 k (omega (arith, before)))
        | inr high ↦
            ap (λ j. get_or out j 0) (let e : k ≡ n + (k - n) = omega arith in e) ∙ is.put.put (k - n) (omega (arith, count, all)) (omega (arith, count))
            ∙ sym (get_or-append_right (take n old) listed n k 0 before high)
      ])
