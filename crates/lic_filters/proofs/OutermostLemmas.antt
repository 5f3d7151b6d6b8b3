-- The sweep that leaves the outermost members of a list.
use Rattle.std.proofs.Common.{◌≡◌, ◌<◌, ◌≤◌, ◌⊎◌, ◌&&◌, not, nat_le, Bool, false, true, List, get_or, filter, refl, sym, ap, subst, inr, ⊎_elim, arith}
use Rattle.std.proofs.lemmas.Bool.Decides.{nat_tests}
use Rattle.std.specs.List.{Contains, dedup, list_any}
use Rattle.std.specs.List.Sorted.{IsPermutation, IsSortedBy}
use Rattle.std.specs.Ordering.{is_lt}
use Rattle.lic_set.specs.declared.triple.Triple.{Triple}
use Rattle.lic_filters.specs.Filters.{SameMembers, has_range_of, has_template_of, is_strictly_within, is_inside, is_around, is_outer, tight_of, outermost_of}
use Rattle.lic_filters.proofs.Orders.{by_range, by_range-total, IsBefore, IsBefore-by_range, AllPairs-from_sorted}
use Rattle.lic_filters.proofs.Ranges.{IsStrictlyWithin, IsStrictlyWithin-test, test-IsStrictlyWithin, test-IsInside}
use Rattle.lic_filters.proofs.Sweeps.{Sweeps, Ranked-from_pairs, Contains-swept}
use Rattle.lic_filters.proofs.Members.{filter-agree, list_any-agree}
use Rattle.lic_filters.proofs.TightLemmas.{no_inside}

-- the last one kept has no smaller last token than t, and another range
abbrev pub is_under : Triple → Triple → Bool
is_under t kept = nat_le t.last kept.last && not (has_range_of t kept)

-- the range of s strictly contains that of t
abbrev pub is_outside : Triple → Triple → Bool
is_outside s t = is_strictly_within t s

under_is : (t kept : Triple) → is_under t kept ≡ true → (t.last ≤ kept.last) × (kept.first ≡ t.first → kept.last ≡ t.last → ⊥)
under_is t kept h = (grind (arith, nat_tests), λ e f. grind (arith, nat_tests))

not_under : (t kept : Triple) → is_under t kept ≡ false → (kept.last < t.last) ⊎ ((kept.last ≡ t.last) × (kept.first ≡ t.first))
not_under t kept h = grind (arith, nat_tests)

Outside-trans : (s t u : Triple) → IsStrictlyWithin t s → IsStrictlyWithin u t → IsStrictlyWithin u s
Outside-trans s t u h k = record { first = omega arith; last = omega arith; another = λ e f. omega arith }

pub outside_itself : (t : Triple) → is_outside t t ≡ true → ⊥
outside_itself t h = (IsStrictlyWithin-test t t h).another refl refl

pub outside_through : (s t u : Triple) → is_outside s t ≡ true → is_outside t u ≡ true → is_outside s u ≡ true
outside_through s t u h k = test-IsStrictlyWithin u s (Outside-trans s t u (IsStrictlyWithin-test t s h) (IsStrictlyWithin-test u t k))

Outside-past : (s t : Triple) → IsBefore s t → IsStrictlyWithin s t → ⊥
Outside-past s t before h =
    let last : s.first ≡ t.first → t.last ≤ s.last = before.last in
    h.another (omega arith) (omega arith)

Outside-under : (s t : Triple) → IsBefore s t → is_under t s ≡ true → IsStrictlyWithin t s
Outside-under s t before h =
    let under = under_is t s h in
    record { first = before.first; last = under.0; another = λ e f. omega arith }

Outside-kept : (s t u : Triple) → IsBefore s t → IsBefore t u → is_under t s ≡ false → IsStrictlyWithin u s → IsStrictlyWithin u t
Outside-kept s t u before after stays h =
    ⊎_elim
    (λ (last : s.last < t.last). record { first = after.first; last = omega arith; another = λ e f. omega arith })
    (λ same. record { first = omega arith; last = omega arith; another = λ e f. omega arith }) (not_under t s stays)

Outside-next : (s t : Triple) → is_under t s ≡ false → IsStrictlyWithin t s → ⊥
Outside-next s t stays h = ⊎_elim (λ last. omega arith) (λ same. omega arith) (not_under t s stays)

pub Sweeps-outermost : Sweeps IsBefore is_outside is_under
Sweeps-outermost = record {
  itself = outside_itself;
  through = outside_through;
  past = λ x y before h. Outside-past x y before (IsStrictlyWithin-test x y h);
  dropped = λ x y before h. inr (test-IsStrictlyWithin y x (Outside-under x y before h));
  kept = λ x y z before after stays h. test-IsStrictlyWithin z y (Outside-kept x y z before after stays (IsStrictlyWithin-test z x h));
  next = λ x y before stays h. Outside-next x y stays (IsStrictlyWithin-test y x h);
}

-- among tight ones, what contains a range has another template
is_around-outside : (s t : Triple) → (is_inside t s ≡ true → ⊥) → is_around s t ≡ is_outside s t
is_around-outside s t apart =
    (elim (has_template_of s t) as (λ b. has_template_of s t ≡ b → not b && is_strictly_within t s ≡ is_strictly_within t s) [
      | true ↦ λ same.
          (elim (is_strictly_within t s) as (λ b. is_strictly_within t s ≡ b → false ≡ b) [
            | true ↦ λ within.
                let e : s.template ≡ t.template = grind (arith, nat_tests) in
                absurd (apart (test-IsInside t s (record { template = sym e; within = IsStrictlyWithin-test t s within })))
            | false ↦ λ _. refl
          ]) refl
      | false ↦ λ _. refl
    ]) refl

-- so it comes to the same whether the template is asked for
pub is_outer-outside : (list : List Triple) → tight_of list ≡ list → (t : Triple) → Contains list t
    → not (list_any (λ s. is_outside s t) list) ≡ is_outer list t
is_outer-outside list tight t in_t =
    ap not (sym (list_any-agree (λ s. is_around s t) (λ s. is_outside s t) list (λ s in_s. is_around-outside s t (no_inside list tight t s in_t in_s))))

-- The sweep of a list of tight ones that is sorted by range leaves its outermost members.
pub outermost_of-swept : (list sorted : List Triple) → tight_of list ≡ list → IsPermutation list sorted → IsSortedBy (λ x y. is_lt (by_range x y)) sorted →
    SameMembers (dedup is_under sorted) (outermost_of list)
outermost_of-swept list sorted tight moved order =
    let pairs = AllPairs-from_sorted by_range by_range-total sorted order in
    let ranked = Ranked-from_pairs IsBefore is_outside is_under sorted (λ i j d before low.
    IsBefore-by_range (get_or sorted i d) (get_or sorted j d) (pairs i j d before low)) in
    let same : filter (λ t. not (list_any (λ s. is_outside s t) list)) list ≡ outermost_of list =
    filter-agree (λ t. not (list_any (λ s. is_outside s t) list)) (is_outer list) list (is_outer-outside list tight) in
    subst (SameMembers (dedup is_under sorted)) same
    (λ t. Contains-swept IsBefore is_outside is_under Sweeps-outermost list sorted moved ranked t)
