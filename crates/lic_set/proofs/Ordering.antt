-- Sets in the order of their identifiers.
use Rattle.std.proofs.Common.{◌≡◌, ◌≢◌, ◌<◌, ◌≤◌, ◌+◌, ◌-◌, ℕ, suc, true, false, Bool, cond, List, [], ◌∷◌, length, get_or, take, map, refl, ap, sym, ◌∙◌, subst, arith}
use Rattle.std.proofs.lemmas.Cmp.{nat_list_cmp_total, tied_itself}
use Rattle.std.proofs.Math.ListN.{get_or-map}
use Rattle.std.proofs.lemmas.List.{length-map}
use Rattle.std.proofs.lemmas.List.Sums.{count_by_more_yes, sum_by-take-le}
use Rattle.std.proofs.lemmas.List.Sorted.{sum_by-IsPermutation, IsPermutation-map}
use Rattle.std.proofs.lemmas.Map.Lookups.{exact_bytes}
use Rattle.std.proofs.lemmas.Map.Text.{is_eq-slice_cmp}
use Rattle.std.specs.Cmp.Lexicographic.{slice_cmp}
use Rattle.std.specs.Global.{Global}
use Rattle.std.specs.List.{AllAdjacentBelow, count_by}
use Rattle.std.specs.List.Sorted.{IsSortedBy, IsPermutation}
use Rattle.std.specs.Ordering.{nat_cmp, is_lt, is_eq, ordering_reverse}
use Rattle.std.specs.Prelude.{String}
use Rattle.std.specs.Str.{bytes_eq}
use Rattle.std.specs.String.{string_bytes, string_cmp}
use Rattle.std.specs.declared.cmp.Ordering.{Ordering}
use Rattle.std.specs.declared.cmp.Ordering.TheVariants.{Less, Equal, Greater}
use Rattle.lic_set.specs.Sets.{Known, pair_known, pairs_known, AscendFrom, AreOrdered, IsSetOf, OccursTwice, RepeatsAt}
use Rattle.lic_markup.specs.Parts.{TemplateValue}

-- what is neither below nor the same, the other way round
below_turned : (o : Ordering) → is_lt o ≡ false → (o ≡ Equal → ⊥) → ordering_reverse o ≡ Less
below_turned Less above other = cc
below_turned Equal above other = absurd (other refl)
below_turned Greater above other = refl

-- what does not come before other bytes comes after them
comes_after : (xs ys : List ℕ) → is_lt (slice_cmp nat_cmp ys xs) ≡ false → xs ≢ ys → slice_cmp nat_cmp xs ys ≡ Less
comes_after xs ys above other =
    nat_list_cmp_total.antisymm xs ys ∙ below_turned (slice_cmp nat_cmp ys xs) above (λ same. other (sym (exact_bytes ys xs same)))

-- what holds of neighbours holds of those after the first
AllAdjacentBelow-tail : {X : Type 0} (R : X → X → Type 0) (x : X) (xs : List X)
    → AllAdjacentBelow R (x ∷ xs) (length (x ∷ xs)) → AllAdjacentBelow R xs (length xs)
AllAdjacentBelow-tail R x xs all = λ k d high.
    let next : suc k + 1 ≡ suc (k + 1) = omega arith in
    subst (λ i. R (get_or xs k d) (get_or (x ∷ xs) i d)) next (all (suc k) d (omega arith))

-- an identifier and its template, as they are handed in
abbrev Pair : Type 0
Pair = String Global × TemplateValue

-- the bytes of its identifier come first
abbrev Precedes : Pair → Pair → Type 0
Precedes a b = slice_cmp nat_cmp (string_bytes a.0) (string_bytes b.0) ≡ Less

AscendFrom-neighbours : (first : Pair) (pairs : List Pair)
    → AllAdjacentBelow Precedes (first ∷ pairs) (length (first ∷ pairs))
    → AscendFrom (string_bytes first.0) (pairs_known pairs)
AscendFrom-neighbours first [] ascend = tt
AscendFrom-neighbours first (next ∷ pairs) ascend =
    (ascend 0 first (omega arith), AscendFrom-neighbours next pairs (AllAdjacentBelow-tail Precedes first (next ∷ pairs) ascend))

AreOrdered-neighbours : (pairs : List Pair) → AllAdjacentBelow Precedes pairs (length pairs) → AreOrdered (pairs_known pairs)
AreOrdered-neighbours [] ascend = tt
AreOrdered-neighbours (first ∷ pairs) ascend = AscendFrom-neighbours first pairs ascend

-- a sort in which no two neighbours are alike makes a set
pub IsSetOf-from_sort : (pairs moved : List Pair) → IsPermutation pairs moved → IsSortedBy (λ x y. is_lt (string_cmp x.0 y.0)) moved
    → AllAdjacentBelow (λ a b. string_bytes a.0 ≢ string_bytes b.0) moved (length moved) → IsSetOf (pairs_known pairs) (pairs_known moved)
IsSetOf-from_sort pairs moved same sorted apart = record {
  holds = IsPermutation-map pair_known pairs moved same;
  ordered = AreOrdered-neighbours moved (λ k d high.
      comes_after (string_bytes (get_or moved k d).0) (string_bytes (get_or moved (k + 1) d).0)
      (sorted k d (omega arith) high) (apart k d high));
}

bytes_eq-same : (xs ys : List ℕ) → xs ≡ ys → bytes_eq xs ys ≡ true
bytes_eq-same xs ys same =
    subst (λ zs. bytes_eq xs zs ≡ true) same (sym (is_eq-slice_cmp xs xs) ∙ ap is_eq (tied_itself nat_list_cmp_total xs))

-- two that pass, one after the other
count_by-neighbours : {X : Type 0} (p : X → Bool) (xs : List X) (k : ℕ) (d : X) → 0 < k → k < length xs
    → p (get_or xs (k - 1) d) ≡ true → p (get_or xs k d) ≡ true → 2 ≤ count_by p xs
count_by-neighbours p xs k d some low first second =
    let back : k - 1 + 1 ≡ k = omega arith in
    omega (
      arith,
      count_by_more_yes p xs (k - 1) d (omega arith) first,
      ap (λ i. count_by p (take i xs)) back,
      count_by_more_yes p xs k d low second,
      sum_by-take-le (λ x. cond (p x) 1 0) xs (k + 1),
    )

-- an identifier that occurs twice does so in any order
OccursTwice-permutation : (id : List ℕ) (xs ys : List Known) → IsPermutation xs ys → OccursTwice id ys → OccursTwice id xs
OccursTwice-permutation id xs ys moved twice =
    subst (λ n. 2 ≤ n) (sum_by-IsPermutation (λ k. cond (bytes_eq k.id id) 1 0) xs ys moved) twice

pub OccursTwice-from_repeat : (pairs moved : List Pair) (k : ℕ) (d : Pair) → IsPermutation pairs moved
    → RepeatsAt moved k → OccursTwice (string_bytes (get_or moved k d).0) (pairs_known pairs)
OccursTwice-from_repeat pairs moved k d same repeats =
    let id : List ℕ = string_bytes (get_or moved k d).0 in
    let passes : Known → Bool = λ n. bytes_eq n.id id in
    let first : passes (get_or (map pair_known moved) (k - 1) (pair_known d)) ≡ true =
    ap passes (get_or-map pair_known moved (k - 1) d) ∙ bytes_eq-same _ id (repeats.2 d) in
    let second : passes (get_or (map pair_known moved) k (pair_known d)) ≡ true = ap passes (get_or-map pair_known moved k d) ∙ bytes_eq-same _ id refl in
    let low : k < length (map pair_known moved) = omega (arith, length-map moved pair_known, repeats.1) in
    OccursTwice-permutation id (pairs_known pairs) (pairs_known moved) (IsPermutation-map pair_known pairs moved same)
    (count_by-neighbours passes (map pair_known moved) k (pair_known d) repeats.0 low first second)
