-- Lists of triples that were sorted, without repeats.
use Rattle.std.proofs.Common.{◌≡◌, ℕ, ◌<◌, ◌⊎◌, ◌==◌, ◌&&◌, Bool, true, List, [], ◌∷◌, refl, sym, ap, ◌∙◌, subst, inl, inr, ⊎_elim, arith}
use Rattle.std.specs.List.{dedup}
use Rattle.std.specs.List.Sorted.{IsPermutation, IsSorted, IsStrictlySortedBy}
use Rattle.std.specs.Cmp.{IsEquivalence, IsTotalOrder, unsigned_ties}
use Rattle.std.specs.Ordering.{eq_by_cmp, is_eq, nat_cmp, ordering_then}
use Rattle.std.specs.declared.cmp.Ordering.{Ordering}
use Rattle.std.specs.declared.cmp.Ordering.TheVariants.{Less, Equal, Greater}
use Rattle.std.proofs.lemmas.Bool.Decides.{nat_tests}
use Rattle.std.proofs.lemmas.Cmp.{eq_by_cmp_equiv, ranked, by_ranked, nat_cmp_total, on_total, then_total}
use Rattle.std.proofs.lemmas.List.Elements.{All-contains, All-from_recursion}
use Rattle.std.proofs.lemmas.List.Kept.{Contains-dedup, Contains-from_dedup, IsStrictlySortedBy-dedup}
use Rattle.std.proofs.lemmas.List.Sorted.{Contains-permutation, IsPermutation-sym}
use Rattle.lic_filters.specs.Filters.{SameMembers, triple_cmp}
use Rattle.lic_filters.proofs.Ranges.{same_triple}
use Rattle.lic_set.specs.Matches.{AreAscending, Precedes}
use Rattle.lic_set.specs.declared.triple.Triple.{Triple}

-- ---- the order of triples

triple_cmp-total : IsTotalOrder triple_cmp
triple_cmp-total = then_total (on_total (λ t. t.first) nat_cmp_total)
    (then_total (on_total (λ t. t.last) nat_cmp_total) (on_total (λ t. t.template) nat_cmp_total))

-- what is less by a number and then by more
is_less : (a b : ℕ) (o : Ordering) → ordering_then (nat_cmp a b) o ≡ Less → (a < b) ⊎ ((a ≡ b) × (o ≡ Less))
is_less a b o h =
    by_ranked (a < b) (a ≡ b) (b < a) (nat_cmp a b) (ranked a b (nat_cmp a b) refl)
    (λ e low. inl low)
    (λ e same. inr (same, subst (λ p. ordering_then p o ≡ Less) e h))
    (λ e high. let less : Greater ≡ Less = subst (λ p. ordering_then p o ≡ Less) e h in absurd (cc))

is_less_last : (a b : ℕ) → nat_cmp a b ≡ Less → a < b
is_less_last a b h =
    by_ranked (a < b) (a ≡ b) (b < a) (nat_cmp a b) (ranked a b (nat_cmp a b) refl)
    (λ e low. low)
    (λ e same. absurd (cc))
    (λ e high. absurd (cc))

precedes : (s t : Triple) → triple_cmp s t ≡ Less → Precedes s t
precedes s t h =
    ⊎_elim inl
    (λ (first, more).
    inr (
      first,
      ⊎_elim inl (λ (last, most). inr (last, is_less_last s.template t.template most))
          (is_less s.last t.last (nat_cmp s.template t.template) more),
    ))
    (is_less s.first t.first (ordering_then (nat_cmp s.last t.last) (nat_cmp s.template t.template)) h)

ascending_strict : (xs : List Triple) → IsStrictlySortedBy triple_cmp xs → AreAscending xs
unfolding IsStrictlySortedBy
ascending_strict [] sorted = tt
ascending_strict (x ∷ xs) sorted = (
  λ t h. precedes x t (All-contains (λ y. triple_cmp x y ≡ Less) xs t (All-from_recursion (λ y. triple_cmp x y ≡ Less) xs sorted.0) h),
  ascending_strict xs sorted.1,
)

-- ---- repeats

-- two triples are the same
abbrev pub is_same : Triple → Triple → Bool
is_same s t = s.first == t.first && (s.last == t.last && s.template == t.template)

is_eq_then : (p o : Ordering) → is_eq (ordering_then p o) ≡ (is_eq p && is_eq o)
is_eq_then Less o = refl
is_eq_then Equal o = refl
is_eq_then Greater o = refl

-- what the order does not tell apart is the same
ties : (s t : Triple) → is_same s t ≡ eq_by_cmp triple_cmp s t
ties s t =
    let more : Ordering = ordering_then (nat_cmp s.last t.last) (nat_cmp s.template t.template) in
    ap (λ b. b && (s.last == t.last && s.template == t.template)) (unsigned_ties s.first t.first)
    ∙ ap (λ b. is_eq (nat_cmp s.first t.first) && (b && s.template == t.template)) (unsigned_ties s.last t.last)
    ∙ ap (λ b. is_eq (nat_cmp s.first t.first) && (is_eq (nat_cmp s.last t.last) && b)) (unsigned_ties s.template t.template)
    ∙ sym (is_eq_then (nat_cmp s.first t.first) more
    ∙ ap (λ b. is_eq (nat_cmp s.first t.first) && b) (is_eq_then (nat_cmp s.last t.last) (nat_cmp s.template t.template)))

same_from : (s t : Triple) → is_same s t ≡ true → s ≡ t
same_from s t h =
    let first : s.first ≡ t.first = grind (arith, nat_tests) in
    let last : s.last ≡ t.last = grind (arith, nat_tests) in
    let template : s.template ≡ t.template = grind (arith, nat_tests) in
    same_triple s t first last template

same_tests : eq_by_cmp triple_cmp ≡ is_same
same_tests = λ i s t. sym (ties s t) i

-- what a sort without repeats leaves of a list: its members, in order
pub record IsSortedOnce (found kept : List Triple) : Type 0 where
  pub ascending : AreAscending kept
  pub members : SameMembers found kept

pub sorted_once : (found sorted kept : List Triple) → IsPermutation found sorted → IsSorted triple_cmp sorted
    → kept ≡ dedup is_same sorted → IsSortedOnce found kept
sorted_once found sorted kept moved order e =
    let equivalence = subst IsEquivalence same_tests (eq_by_cmp_equiv triple_cmp-total) in
    subst (IsSortedOnce found) (sym e) (record {
      ascending = ascending_strict (dedup is_same sorted) (IsStrictlySortedBy-dedup triple_cmp-total ties sorted order);
      members = λ t. (
        λ h. Contains-dedup equivalence same_from sorted t (Contains-permutation found sorted t moved h),
        λ h. Contains-permutation sorted found t (IsPermutation-sym found sorted moved) (Contains-from_dedup is_same sorted t h),
      );
    })
