-- The offsets of flags that are set, found from the first on.
use Rattle.std.proofs.Common.{◌≡◌, drop, take, ◌≤◌, ℕ, zero, suc, ◌+◌, ◌*◌, ◌^◌, ◌<◌, Bool, true, false, List, [], ◌∷◌, ◌++◌, get_or, length, set, refl, ap, sym, ◌∙◌, arith, inl, inr, w64, eq-eqb}
use Rattle.std.proofs.lemmas.Bool.{cases_eq, cases_lt}
use Rattle.std.proofs.lemmas.List.{ext_get_or, get_or_past, get_or-take, get_or-drop, length-take, length-take-le, get_or-set_same, get_or-set_other, length-set}
use Rattle.std.proofs.Math.Seq.{take-add}
use Rattle.std.proofs.lemmas.Nat.Bits.{bit_at-trailing_zeros}
use Rattle.std.specs.Prelude.{◌==◌}
use Rattle.std.specs.Int.{trailing_zeros}
use Rattle.lic_columns.specs.Masks.{flag_at}
use Rattle.lic_columns.specs.Flags.{bits_of}
use Rattle.lic_columns.specs.Offsets.{offsets}
use Rattle.lic_letters.proofs.BitLemmas.{has_bit_zero}
use Rattle.lic_columns.proofs.FlagLemmas.{length-bits_of, flag_at-bits_of}
use Rattle.lic_trim.proofs.LowestBit.{without_lowest, lowest_cleared, others_stay}
use Rattle.lic_trim.specs.PieceLengths.{has_bit}

-- the first flag that is set, and those of the others
pub offsets_first : (at t : ℕ) (flags : List Bool) → flag_at flags t ≡ true → ((k : ℕ) → k < t → flag_at flags k ≡ false)
    → offsets at flags ≡ (at + t) ∷ offsets at (set flags t false)
offsets_first at t [] one none = absurd (let e : false ≡ true = one in cc)
offsets_first at zero (true ∷ flags) one none = let offset : at ≡ at + 0 = omega arith in ap (λ p. p ∷ offsets (suc at) flags) offset
offsets_first at zero (false ∷ flags) one none = absurd cc
offsets_first at (suc t) (true ∷ flags) one none = absurd (let e : true ≡ false = none 0 (omega arith) in cc)
offsets_first at (suc t) (false ∷ flags) one none =
    let rest = offsets_first (suc at) t flags one (λ k low. none (suc k) (omega arith)) in
    let offset : suc at + t ≡ at + suc t = omega arith in
    rest ∙ ap (λ p. p ∷ offsets (suc at) (set flags t false)) offset

pub offsets-append : (at : ℕ) (one two : List Bool) → offsets at (one ++ two) ≡ offsets at one ++ offsets (at + length one) two
offsets-append at [] two = ap (λ k. offsets k two) (let e : at ≡ at + 0 = omega arith in e)
offsets-append at (true ∷ one) two =
    let offset : suc at + length one ≡ at + suc (length one) = omega arith in
    ap (λ l. at ∷ l) (offsets-append (suc at) one two ∙ ap (λ k. offsets (suc at) one ++ offsets k two) offset)
offsets-append at (false ∷ one) two =
    let offset : suc at + length one ≡ at + suc (length one) = omega arith in
    offsets-append (suc at) one two ∙ ap (λ k. offsets (suc at) one ++ offsets k two) offset

pub no_offsets : (at : ℕ) (flags : List Bool) → ((k : ℕ) → flag_at flags k ≡ false) → offsets at flags ≡ []
no_offsets at [] none = refl
no_offsets at (true ∷ flags) none = absurd (let e : true ≡ false = none 0 in cc)
no_offsets at (false ∷ flags) none = no_offsets (suc at) flags (λ k. none (suc k))

pub offsets_of_zero : (at : ℕ) → offsets at (bits_of 64 0) ≡ []
offsets_of_zero at = no_offsets at (bits_of 64 0) (λ k. elim (cases_lt k 64) [
  | inl low ↦ flag_at-bits_of 64 0 k low ∙ has_bit_zero k
  | inr high ↦ get_or_past (bits_of 64 0) k false (omega (arith, length-bits_of 64 0))
])

module _ (mask : ℕ) (some : 0 < mask) (fits : mask < 2 ^ 64) where
  bits_without : bits_of 64 (without_lowest mask) ≡ set (bits_of 64 mask) (trailing_zeros w64 mask) false
  bits_without =
      let t = bit_at-trailing_zeros w64 mask some fits in
      ext_get_or false _ _ (length-bits_of 64 (without_lowest mask) ∙ sym (length-set (bits_of 64 mask) (trailing_zeros w64 mask) false ∙ length-bits_of 64 mask))
      (λ k within.
      let small : k < 64 = omega (arith, length-bits_of 64 (without_lowest mask)) in
      flag_at-bits_of 64 (without_lowest mask) k small ∙ elim (cases_eq k (trailing_zeros w64 mask)) [
        | inl same ↦
            ap (λ j. has_bit (without_lowest mask) j) same ∙ ap (λ n. n == 1) (lowest_cleared mask some fits)
            ∙ sym (ap (λ j. get_or (set (bits_of 64 mask) (trailing_zeros w64 mask) false) j false) same
            ∙ get_or-set_same (bits_of 64 mask) (trailing_zeros w64 mask) false false (omega (arith, t.0, length-bits_of 64 mask)))
        | inr other ↦
            ap (λ n. n == 1) (others_stay mask some fits k other)
            ∙ sym (flag_at-bits_of 64 mask k small) ∙ sym (get_or-set_other (bits_of 64 mask) (trailing_zeros w64 mask) k false false other)
      ])

  pub first_offset : (at : ℕ) → offsets at (bits_of 64 mask) ≡ (at + trailing_zeros w64 mask) ∷ offsets at (bits_of 64 (without_lowest mask))
  first_offset at =
      let t = bit_at-trailing_zeros w64 mask some fits in
      offsets_first at (trailing_zeros w64 mask) (bits_of 64 mask) (flag_at-bits_of 64 mask (trailing_zeros w64 mask) t.0 ∙ eq-eqb _ 1 t.1)
      (λ k low. flag_at-bits_of 64 mask k (omega (arith, t.0)) ∙ ap (λ n. n == 1) (t.2 k low))
      ∙ ap (λ l. (at + trailing_zeros w64 mask) ∷ offsets at l) (sym bits_without)

-- ---- the offsets of a whole text, column by column

pub offsets_same : (at : ℕ) (one two : List Bool) → ((k : ℕ) → flag_at one k ≡ flag_at two k) → offsets at one ≡ offsets at two
offsets_same at [] two same = sym (no_offsets at two (λ k. sym (same k)))
offsets_same at (t ∷ one) [] same = no_offsets at (t ∷ one) same
offsets_same at (true ∷ one) (true ∷ two) same = ap (λ l. at ∷ l) (offsets_same (suc at) one two (λ k. same (suc k)))
offsets_same at (true ∷ one) (false ∷ two) same = absurd (let e : true ≡ false = same 0 in cc)
offsets_same at (false ∷ one) (true ∷ two) same = absurd (let e : false ≡ true = same 0 in cc)
offsets_same at (false ∷ one) (false ∷ two) same = offsets_same (suc at) one two (λ k. same (suc k))

module _ (flags : List Bool) (k mask : ℕ) (inside : k * 64 ≤ length flags) (bits : (i : ℕ) → i < 64 → has_bit mask i ≡ flag_at flags (k * 64 + i)) where
  column_flags : (i : ℕ) → flag_at (bits_of 64 mask) i ≡ flag_at (take 64 (drop (k * 64) flags)) i
  column_flags i = elim (cases_lt i 64) [
    | inl low ↦ flag_at-bits_of 64 mask i low ∙ bits i low
        ∙ sym (get_or-take 64 (drop (k * 64) flags) i false low ∙ get_or-drop (k * 64) flags i false)
    | inr high ↦
        get_or_past (bits_of 64 mask) i false (omega (arith, length-bits_of 64 mask))
        ∙ sym (get_or_past (take 64 (drop (k * 64) flags)) i false (omega (arith, length-take 64 (drop (k * 64) flags))))
  ]

  pub column_offsets : (at : ℕ) → offsets at (take (k * 64) flags) ++ offsets (at + k * 64) (bits_of 64 mask) ≡ offsets at (take ((k + 1) * 64) flags)
  column_offsets at =
      ap (λ l. offsets at (take (k * 64) flags) ++ l)
      (ap (λ n. offsets (at + n) (bits_of 64 mask)) (sym (length-take-le (k * 64) flags inside))
      ∙ offsets_same (at + length (take (k * 64) flags)) (bits_of 64 mask) (take 64 (drop (k * 64) flags)) column_flags)
      ∙ sym (offsets-append at (take (k * 64) flags) (take 64 (drop (k * 64) flags)))
      ∙ ap (offsets at) (sym (take-add (k * 64) 64 flags))
      ∙ ap (λ n. offsets at (take n flags)) (let e : k * 64 + 64 ≡ (k + 1) * 64 = omega arith in e)
