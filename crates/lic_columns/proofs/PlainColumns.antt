-- Columns in which no mark has the letter of the next, from the last offset of the column before on.
use Rattle.std.proofs.Common.{◌≡◌, ℕ, zero, suc, ◌+◌, ◌*◌, ◌/◌, ◌^◌, ◌<◌, Bool, true, false, not, ◌&&◌, ◌||◌, List, length, get_or, refl, ap, sym, ◌∙◌, arith}
use Rattle.std.proofs.lemmas.Nat.Bits.{bit_at_lowest}
use Rattle.std.specs.Prelude.{◌==◌, bit_or}
use Rattle.lic_columns.specs.Masks.{flag_at, flag_before, IsColumn, EndsBefore}
use Rattle.lic_columns.specs.Marks.{HaveLetters, same_as_next, middles, is_in_separator, is_joining, kept_in, joined_marks}
use Rattle.lic_letters.proofs.BitLemmas.{has_bit_or, has_bit_zero}
use Rattle.lic_columns.proofs.ColumnLemmas.{none_alike, kept_is_mark, kept_pair, set_inside, some_inside}
use Rattle.lic_columns.proofs.MarkLemmas.{same_at, middle_at, kept_at, joined_at}
use Rattle.lic_trim.specs.PieceLengths.{has_bit}

and_false : (t : Bool) → (t && false) ≡ false
and_false true = refl
and_false false = refl

and_true : (t : Bool) → (t && true) ≡ t
and_true true = refl
and_true false = refl

neither : (t u : Bool) → (t || u) ≡ false → (t ≡ false) × (u ≡ false)
neither true u e = absurd cc
neither false u e = (refl, e)

-- a mask and the highest bit of the one before are empty
pub nothing_close : (here before : ℕ) → bit_or here (before / 2 ^ 63) ≡ 0 → ((i : ℕ) → has_bit here i ≡ false) × (has_bit before 63 ≡ false)
nothing_close here before none =
    let parts = λ (i : ℕ). neither (has_bit here i) (has_bit (before / 2 ^ 63) i)
    (sym (has_bit_or here (before / 2 ^ 63) i) ∙ ap (λ m. has_bit m i) none ∙ has_bit_zero i) in
    (λ i. (parts i).0, sym (ap (λ n. n == 1) (bit_at_lowest (before / 2 ^ 63))) ∙ (parts 0).1)

-- marks are of bytes that there are
pub column_inside : (marks : List Bool) (k here n : ℕ) → here < 2 ^ 64 → IsColumn here marks k → n ≡ length marks → 0 < here → k * 64 < n
column_inside marks k here n fits is long some =
    some_inside here k n fits some (λ i small set. let inside = set_inside marks (k * 64 + i) (sym (is.bit i small) ∙ set) in omega (arith, inside, long))

pub no_middle : (same : List Bool) (n : ℕ) → flag_before same n ≡ false → flag_at (middles same) n ≡ false
no_middle same n none = middle_at same n ∙ ap (λ t. t && flag_at same n) none

no_middle_before : (same : List Bool) (n : ℕ) → flag_before same n ≡ false → flag_before (middles same) n ≡ false
no_middle_before same zero none = refl
no_middle_before same (suc n) none = middle_at same n ∙ ap (λ t. flag_before same n && t) none ∙ and_false (flag_before same n)

-- what ends in no flag before a column, and in none of the column
ends_on : (mask : ℕ) (flags : List Bool) (k : ℕ) → EndsBefore mask flags k → flag_before flags (k * 64) ≡ false → flag_before flags ((k + 1) * 64) ≡ false
    → EndsBefore mask flags (k + 1)
ends_on mask flags k is none none_after = record { last = is.last ∙ none ∙ sym none_after }

module _ (bytes letters : List ℕ) (marks : List Bool) (have : HaveLetters bytes letters marks) (long : length bytes ≡ length marks) where
  no_same : (n : ℕ) → flag_before (same_as_next letters marks) n ≡ false → flag_before (same_as_next bytes marks) n ≡ false
  no_same zero none = refl
  no_same (suc n) none = same_at bytes marks n ∙ none_alike bytes letters marks have long n (sym (same_at letters marks n) ∙ none)

  module _ (k : ℕ) (before : flag_before (same_as_next letters marks) (k * 64) ≡ false)
      (here : (i : ℕ) → i < 64 → flag_at (same_as_next letters marks) (k * 64 + i) ≡ false) where
    alike_before : (i : ℕ) → i < 65 → flag_before (same_as_next letters marks) (k * 64 + i) ≡ false
    alike_before zero small = ap (flag_before (same_as_next letters marks)) (let e : k * 64 + 0 ≡ k * 64 = omega arith in e) ∙ before
    alike_before (suc i) small = ap (flag_before (same_as_next letters marks)) (let e : k * 64 + suc i ≡ suc (k * 64 + i) = omega arith in e) ∙ here i (omega arith)

    alike_after : flag_before (same_as_next letters marks) ((k + 1) * 64) ≡ false
    alike_after = ap (flag_before (same_as_next letters marks)) (let e : (k + 1) * 64 ≡ k * 64 + 64 = omega arith in e) ∙ alike_before 64 (omega arith)

    same_here : (i : ℕ) → i < 64 → flag_at (same_as_next bytes marks) (k * 64 + i) ≡ false
    same_here i small = no_same (suc (k * 64 + i)) (here i small)

    in_no_separator : (i : ℕ) → i < 64 → is_in_separator (middles (same_as_next bytes marks)) (k * 64 + i) ≡ false
    in_no_separator i small =
        let same = same_as_next bytes marks in
        let n = k * 64 + i in
        let none = no_same n (alike_before i (omega arith)) in
        ap (λ t. t || (flag_before (middles same) n || flag_at (middles same) (suc n))) (no_middle same n none)
        ∙ ap (λ t. t || flag_at (middles same) (suc n)) (no_middle_before same n none)
        ∙ no_middle same (suc n) (same_here i small)

    pub kept_here : (separators : Bool) (i : ℕ) → i < 64 → flag_at marks (k * 64 + i) ≡ flag_at (kept_in separators bytes marks) (k * 64 + i)
    kept_here false i small = refl
    kept_here true i small =
        sym (kept_at (middles (same_as_next bytes marks)) marks (k * 64 + i)
        ∙ ap (λ t. flag_at marks (k * 64 + i) && not t) (in_no_separator i small) ∙ and_true (flag_at marks (k * 64 + i)))

    pub none_joined : (separators : Bool) (i : ℕ) → i < 64 → flag_at (joined_marks letters (kept_in separators bytes marks)) (k * 64 + i) ≡ false
    none_joined separators i small =
        let kept = kept_in separators bytes marks in
        let n = k * 64 + i in
        joined_at letters kept n
        ∙ ap (λ t. t && is_joining (get_or letters n 0)) (sym (kept_pair letters marks kept (kept_is_mark separators bytes marks) n)
        ∙ ap (λ t. flag_at kept n && (t && flag_before kept n)) (alike_before i (omega arith)) ∙ and_false (flag_at kept n))

    pub same_on : (mask : ℕ) → EndsBefore mask (same_as_next bytes marks) k → EndsBefore mask (same_as_next bytes marks) (k + 1)
    same_on mask is = ends_on mask (same_as_next bytes marks) k is (no_same (k * 64) before) (no_same ((k + 1) * 64) alike_after)

    pub alike_on : (mask : ℕ) → EndsBefore mask (same_as_next letters marks) k → EndsBefore mask (same_as_next letters marks) (k + 1)
    alike_on mask is = ends_on mask (same_as_next letters marks) k is before alike_after

    pub middle_on : (mask : ℕ) → EndsBefore mask (middles (same_as_next bytes marks)) k → EndsBefore mask (middles (same_as_next bytes marks)) (k + 1)
    middle_on mask is = ends_on mask (middles (same_as_next bytes marks)) k is
        (no_middle_before (same_as_next bytes marks) (k * 64) (no_same (k * 64) before))
        (no_middle_before (same_as_next bytes marks) ((k + 1) * 64) (no_same ((k + 1) * 64) alike_after))

    pub close_on : (mask : ℕ) (kept : List Bool) → has_bit mask 63 ≡ (flag_before (same_as_next letters marks) (k * 64) && flag_before kept (k * 64))
        → has_bit mask 63 ≡ (flag_before (same_as_next letters marks) ((k + 1) * 64) && flag_before kept ((k + 1) * 64))
    close_on mask kept is =
        is ∙ ap (λ t. t && flag_before kept (k * 64)) before ∙ sym (ap (λ t. t && flag_before kept ((k + 1) * 64)) alike_after)
