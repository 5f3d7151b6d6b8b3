-- Members of a sorted list, found by binary search.
use Rattle.std.proofs.Common.{◌≡◌, ◌↔◌, ℕ, ◌<◌, ◌≤◌, Bool, false, true, List, length, get_or, Result, Ok, Err, is_ok, filter, refl, sym, ◌∙◌, subst, arith}
use Rattle.std.proofs.lemmas.Bool.{false≢true}
use Rattle.std.proofs.lemmas.Cmp.{ranked, by_ranked, nat_cmp_total, on_total, then_total, tied_itself, eq_by_cmp_equiv}
use Rattle.std.proofs.lemmas.List.Sorted.{searchable_from_sorted, Contains-permutation, IsPermutation-sym}
use Rattle.std.proofs.lemmas.Map.Views.{list_any-from_Contains, Contains-from_any}
use Rattle.std.specs.Cmp.{IsTotalOrder}
use Rattle.std.specs.List.{Contains, list_any}
use Rattle.std.specs.List.Sorted.{IsPermutation, IsSorted, IsSearchInRange, IsBinarySearchResult}
use Rattle.std.specs.Ordering.{nat_cmp, is_eq, ordering_then, eq_by_cmp}
use Rattle.std.specs.declared.cmp.Ordering.{Ordering}
use Rattle.std.specs.declared.cmp.Ordering.TheVariants.{Less, Equal, Greater}
use Rattle.lic_set.specs.declared.triple.Triple.{Triple}
use Rattle.lic_filters.specs.Filters.{triple_cmp, SameMembers}
use Rattle.lic_filters.proofs.Members.{Contains-filter, filter-agree}
use Rattle.lic_filters.proofs.Ranges.{same_triple}

triple_cmp-total : IsTotalOrder triple_cmp
triple_cmp-total = then_total (on_total (λ t. t.first) nat_cmp_total)
    (then_total (on_total (λ t. t.last) nat_cmp_total) (on_total (λ t. t.template) nat_cmp_total))

then_equal : (a b : ℕ) (o : Ordering) → ordering_then (nat_cmp a b) o ≡ Equal → (a ≡ b) × (o ≡ Equal)
then_equal a b o h =
    by_ranked (a < b) (a ≡ b) (b < a) (nat_cmp a b) (ranked a b (nat_cmp a b) refl)
    (λ e low. let other : Less ≡ Equal = subst (λ p. ordering_then p o ≡ Equal) e h in absurd (cc))
    (λ e same. (same, subst (λ p. ordering_then p o ≡ Equal) e h))
    (λ e high. let other : Greater ≡ Equal = subst (λ p. ordering_then p o ≡ Equal) e h in absurd (cc))

equal_is : (a b : ℕ) → nat_cmp a b ≡ Equal → a ≡ b
equal_is a b h =
    by_ranked (a < b) (a ≡ b) (b < a) (nat_cmp a b) (ranked a b (nat_cmp a b) refl) (λ e low. absurd (cc)) (λ e same. same) (λ e high. absurd (cc))

triple_cmp-equal : (s t : Triple) → triple_cmp s t ≡ Equal → s ≡ t
triple_cmp-equal s t h =
    let first = then_equal s.first t.first (ordering_then (nat_cmp s.last t.last) (nat_cmp s.template t.template)) h in
    let last = then_equal s.last t.last (nat_cmp s.template t.template) first.1 in
    same_triple s t first.0 last.0 (equal_is s.template t.template last.1)

-- a binary search finds just the members
pub search-Contains : (sorted : List Triple) (t : Triple) (r : Result ℕ ℕ) → IsSorted triple_cmp sorted → IsSearchInRange r (length sorted) →
    IsBinarySearchResult (λ s. triple_cmp s t) sorted r → (is_ok r ≡ true) ↔ Contains sorted t
search-Contains sorted t (Ok i) order low at = (λ _. (i, low, triple_cmp-equal (get_or sorted i t) t (at t)), λ _. refl)
search-Contains sorted t (Err i) order low parts =
    let split = parts (searchable_from_sorted triple_cmp-total (λ s. s) sorted t order) in
    let itself : triple_cmp t t ≡ Equal = tied_itself triple_cmp-total t in (
      λ e. absurd (false≢true e),
      λ (k, known, is).
          let past : i ≤ k → ⊥ = λ after. let other : Greater ≡ Equal =
          sym (subst (λ s. triple_cmp s t ≡ Greater) is (split.1 k t after known)) ∙ itself in cc in
          by_ranked (k < i) (k ≡ i) (i < k) (nat_cmp k i) (ranked k i (nat_cmp k i) refl)
          (λ _ before. let other : Less ≡ Equal = sym (subst (λ s. triple_cmp s t ≡ Less) is (split.0 k t (omega arith) before)) ∙ itself in absurd (cc))
          (λ _ same. absurd (past (omega arith))) (λ _ after. absurd (past (omega arith))),
    )

-- whether a triple is one of these, by comparing
abbrev pub is_among : List Triple → Triple → Bool
is_among list t = list_any (eq_by_cmp triple_cmp t) list

is_eq-Equal : (o : Ordering) → is_eq o ≡ true → o ≡ Equal
is_eq-Equal Less h = absurd (false≢true h)
is_eq-Equal Equal h = refl
is_eq-Equal Greater h = absurd (false≢true h)

is_among-Contains : (list : List Triple) (t : Triple) → (is_among list t ≡ true) ↔ Contains list t
is_among-Contains list t = (
  Contains-from_any (λ x y h. triple_cmp-equal x y (is_eq-Equal (triple_cmp x y) h)) t list,
  list_any-from_Contains (eq_by_cmp_equiv triple_cmp-total) t list,
)

one_answer : (a b : Bool) → (a ≡ true → b ≡ true) → (b ≡ true → a ≡ true) → a ≡ b
one_answer true b to from = sym (to refl)
one_answer false true to from = from refl
one_answer false false to from = refl

-- an answer that is true of just the members is that comparison's
pub is_among-answer : (list : List Triple) (t : Triple) (b : Bool) → (b ≡ true) ↔ Contains list t → b ≡ is_among list t
is_among-answer list t b says =
    let among = is_among-Contains list t in
    one_answer b (is_among list t) (λ h. among.1 (says.0 h)) (λ h. says.1 (among.0 h))

-- what has the members of a filtered list selects what the filter does
pub filter-is_among : (list members sorted : List Triple) → IsPermutation members sorted → (p : Triple → Bool) → SameMembers members (filter p list) →
    filter (is_among sorted) list ≡ filter p list
filter-is_among list members sorted moved p same =
    filter-agree (is_among sorted) p list
    (λ t known.
    let among = is_among-Contains sorted t in
    let passes = Contains-filter p list t in
    one_answer (is_among sorted t) (p t)
    (λ h. (passes.0 ((same t).0 (Contains-permutation sorted members t (IsPermutation-sym members sorted moved) (among.0 h)))).1)
    (λ h. among.1 (Contains-permutation members sorted t moved ((same t).1 (passes.1 (known, h))))))
