-- Marks column by column, bit by bit.
use Rattle.std.proofs.Common.{◌≡◌, ℕ, zero, suc, ◌+◌, ◌*◌, ◌^◌, ◌<◌, Bool, true, false, ◌&&◌, List, length, map, get_or, refl, ap, ap₂, sym, ◌∙◌, inl, inr, arith, w64, eq-eqb}
use Rattle.std.proofs.lemmas.Bool.{cases_lt, and_parts, eqb-true}
use Rattle.std.proofs.lemmas.List.{get_or_past, get_or-map, length-map}
use Rattle.std.proofs.lemmas.Nat.{and_le_l}
use Rattle.std.proofs.lemmas.Nat.Bits.{bit_at-trailing_zeros}
use Rattle.std.specs.Prelude.{◌==◌, bit_and}
use Rattle.std.specs.Int.{trailing_zeros}
use Rattle.lic_letters.specs.Bytes.{letter}
use Rattle.lic_columns.specs.Masks.{flag_at, flag_before, IsColumn, EndsBefore}
use Rattle.lic_columns.specs.Marks.{HaveLetters, is_same_as_next, same_as_next, middles, kept_in}
use Rattle.lic_letters.proofs.BitLemmas.{has_bit_and}
use Rattle.lic_columns.proofs.MarkLemmas.{same_at, kept_at}
use Rattle.lic_trim.specs.PieceLengths.{has_bit}

pub set_inside : (flags : List Bool) (k : ℕ) → flag_at flags k ≡ true → k < length flags
set_inside flags k set = elim (cases_lt k (length flags)) [
  | inl inside ↦ inside
  | inr past ↦ absurd (let e : true ≡ false = sym set ∙ get_or_past flags k false past in cc)
]

-- a column with a bit is of flags that there are
pub some_inside : (mask : ℕ) (k n : ℕ) → mask < 2 ^ 64 → 0 < mask → ((i : ℕ) → i < 64 → has_bit mask i ≡ true → k * 64 + i < n) → k * 64 < n
some_inside mask k n fits some inside =
    let t = bit_at-trailing_zeros w64 mask some fits in
    let first = inside (trailing_zeros w64 mask) t.0 (eq-eqb _ 1 t.1) in
    omega arith

-- so is one of marks of which the next is a mark too
pub pairs_inside : (marks : List Bool) (k here after : ℕ) → here < 2 ^ 64 → 0 < bit_and here after → ((i : ℕ) → i < 64 → has_bit here i ≡ flag_at marks (k * 64 + i))
    → k * 64 < length marks
pairs_inside marks k here after fits some bits =
    some_inside (bit_and here after) k (length marks) (omega (arith, and_le_l here after, fits)) some
    (λ i small set. set_inside marks (k * 64 + i) (sym (bits i small) ∙ (and_parts _ _ (sym (has_bit_and here after i) ∙ set)).0))

pub ends_before : (mask k : ℕ) (flags : List Bool) → IsColumn mask flags k → EndsBefore mask flags (k + 1)
ends_before mask k flags is = record {
  last = is.bit 63 (omega arith) ∙ ap (flag_before flags) (let e : suc (k * 64 + 63) ≡ (k + 1) * 64 = omega arith in e);
}

-- ---- marks that are the same as the next have its letter

same_letter : (bytes : List ℕ) (n : ℕ) → suc n < length bytes → (get_or bytes n 0 == get_or bytes (suc n) 0) ≡ true
    → (get_or (map letter bytes) n 0 == get_or (map letter bytes) (suc n) 0) ≡ true
same_letter bytes n inside same = eq-eqb _ _
    (get_or-map letter bytes n 0 0 (omega arith) ∙ ap letter (eqb-true _ _ same) ∙ sym (get_or-map letter bytes (suc n) 0 0 inside))

narrower : (one two b l : Bool) → (two ≡ true → b ≡ true → l ≡ true) → ((one && two) && b) ≡ (((one && two) && l) && b)
narrower false two b l h = refl
narrower true false b l h = refl
narrower true true false true h = refl
narrower true true false false h = refl
narrower true true true true h = refl
narrower true true true false h = absurd (let e : false ≡ true = h refl refl in cc)

none_after : (one two l x b : Bool) → two ≡ false → (((one && two) && l) && x) ≡ ((one && two) && b)
none_after true true l x b e = absurd cc
none_after true false l x b e = refl
none_after false two l x b e = refl

-- the letters of bytes are such
pub map_letters : (bytes letters : List ℕ) (marks : List Bool) → letters ≡ map letter bytes → length bytes ≡ length marks → HaveLetters bytes letters marks
map_letters bytes letters marks are long = record {
  long = ap length are ∙ length-map bytes letter;
  alike = λ n set same.
      ap (λ l. get_or l n 0 == get_or l (suc n) 0) are ∙ same_letter bytes n (omega (arith, set_inside marks (suc n) set, long)) same;
}

module _ (bytes letters : List ℕ) (marks : List Bool) (have : HaveLetters bytes letters marks) (long : length bytes ≡ length marks) where
  pub same_is_alike : (n : ℕ) → is_same_as_next bytes marks n ≡ (is_same_as_next letters marks n && (get_or bytes n 0 == get_or bytes (suc n) 0))
  same_is_alike n = narrower (flag_at marks n) (flag_at marks (suc n)) (get_or bytes n 0 == get_or bytes (suc n) 0) (get_or letters n 0 == get_or letters (suc n) 0)
      (λ set same. have.alike n set same)

  pub none_alike : (n : ℕ) → is_same_as_next letters marks n ≡ false → is_same_as_next bytes marks n ≡ false
  none_alike n none = same_is_alike n ∙ ap (λ t. t && (get_or bytes n 0 == get_or bytes (suc n) 0)) none

  pub same_of_alike : (k i alike same : ℕ) → has_bit alike i ≡ is_same_as_next letters marks (k * 64 + i)
      → (k * 64 + suc i < length bytes → has_bit same i ≡ (get_or bytes (k * 64 + i) 0 == get_or bytes (k * 64 + suc i) 0))
      → has_bit (bit_and alike same) i ≡ is_same_as_next bytes marks (k * 64 + i)
  same_of_alike k i alike same alike_is same_is =
      let next : k * 64 + suc i ≡ suc (k * 64 + i) = omega arith in
      has_bit_and alike same i ∙ ap (λ t. t && has_bit same i) alike_is ∙ elim (cases_lt (k * 64 + suc i) (length bytes)) [
        | inl inside ↦
            ap (λ t. is_same_as_next letters marks (k * 64 + i) && t) (same_is inside ∙ ap (λ n. get_or bytes (k * 64 + i) 0 == get_or bytes n 0) next)
            ∙ sym (same_is_alike (k * 64 + i))
        | inr past ↦ none_after (flag_at marks (k * 64 + i)) (flag_at marks (suc (k * 64 + i))) _ (has_bit same i) _
            (get_or_past marks (suc (k * 64 + i)) false (omega arith))
      ]

-- ---- marks that are kept

pub kept_is_mark : (separators : Bool) (bytes : List ℕ) (marks : List Bool) (n : ℕ) → flag_at (kept_in separators bytes marks) n ≡ true → flag_at marks n ≡ true
kept_is_mark true bytes marks n set = (and_parts _ _ (sym (kept_at (middles (same_as_next bytes marks)) marks n) ∙ set)).0
kept_is_mark false bytes marks n set = set

close_pair : (k0 k1 m0 m1 e : Bool) → (k0 ≡ true → m0 ≡ true) → (k1 ≡ true → m1 ≡ true) → (k1 && (((m0 && m1) && e) && k0)) ≡ (k1 && ((k0 && k1) && e))
close_pair k0 false m0 m1 e p q = refl
close_pair k0 true m0 false e p q = absurd (let f : false ≡ true = q refl in cc)
close_pair true true false true e p q = absurd (let f : false ≡ true = p refl in cc)
close_pair true true true true true p q = refl
close_pair true true true true false p q = refl
close_pair false true true true true p q = refl
close_pair false true true true false p q = refl
close_pair false true false true e p q = refl

-- marks that are kept, and before each a mark that is kept and has the letter of the next
module _ (letters : List ℕ) (marks kept : List Bool) (are_marks : (n : ℕ) → flag_at kept n ≡ true → flag_at marks n ≡ true) where
  pub kept_pair : (n : ℕ) → (flag_at kept n && (flag_before (same_as_next letters marks) n && flag_before kept n))
      ≡ (flag_at kept n && flag_before (same_as_next letters kept) n)
  kept_pair zero = refl
  kept_pair (suc n) =
      ap (λ t. flag_at kept (suc n) && (t && flag_at kept n)) (same_at letters marks n)
      ∙ close_pair (flag_at kept n) (flag_at kept (suc n)) (flag_at marks n) (flag_at marks (suc n)) (get_or letters n 0 == get_or letters (suc n) 0)
      (are_marks n) (are_marks (suc n))
      ∙ sym (ap (λ t. flag_at kept (suc n) && t) (same_at letters kept n))

  module _ (k here alike before close up : ℕ) (kept_is : IsColumn here kept k) (alike_is : IsColumn alike (same_as_next letters marks) k)
      (before_is : has_bit before 63 ≡ (flag_before (same_as_next letters marks) (k * 64) && flag_before kept (k * 64))) (is_close : close ≡ bit_and alike here) where
    close_is : (i : ℕ) → i < 64 → has_bit close i ≡ (flag_at (same_as_next letters marks) (k * 64 + i) && flag_at kept (k * 64 + i))
    close_is i small = ap (λ m. has_bit m i) is_close ∙ has_bit_and alike here i ∙ ap₂ (λ t u. t && u) (alike_is.bit i small) (kept_is.bit i small)

    pub close_next : has_bit close 63 ≡ (flag_before (same_as_next letters marks) ((k + 1) * 64) && flag_before kept ((k + 1) * 64))
    close_next = close_is 63 (omega arith)
        ∙ ap (λ n. flag_before (same_as_next letters marks) n && flag_before kept n) (let e : suc (k * 64 + 63) ≡ (k + 1) * 64 = omega arith in e)

    module _ (lowest : has_bit up 0 ≡ has_bit before 63) (rest : (i : ℕ) → suc i < 64 → has_bit up (suc i) ≡ has_bit close i) where
      up_is : (i : ℕ) → i < 64 → has_bit up i ≡ (flag_before (same_as_next letters marks) (k * 64 + i) && flag_before kept (k * 64 + i))
      up_is zero small =
          lowest ∙ before_is ∙ ap (λ n. flag_before (same_as_next letters marks) n && flag_before kept n) (let e : k * 64 ≡ k * 64 + 0 = omega arith in e)
      up_is (suc i) small =
          rest i small ∙ close_is i (omega arith)
          ∙ ap (λ n. flag_before (same_as_next letters marks) n && flag_before kept n) (let e : suc (k * 64 + i) ≡ k * 64 + suc i = omega arith in e)

      pub may_join : (i : ℕ) → i < 64 → has_bit (bit_and here up) i ≡ (flag_at kept (k * 64 + i) && flag_before (same_as_next letters kept) (k * 64 + i))
      may_join i small = has_bit_and here up i ∙ ap₂ (λ t u. t && u) (kept_is.bit i small) (up_is i small) ∙ kept_pair (k * 64 + i)
