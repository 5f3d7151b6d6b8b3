-- The sweep that leaves the tight members of a list.
use Rattle.std.proofs.Common.{◌≡◌, ◌<◌, ◌≤◌, ◌⊎◌, ◌&&◌, ◌==◌, nat_le, Bool, false, true, List, get_or, refl, sym, subst, inl, inr, arith}
use Rattle.std.proofs.lemmas.Bool.Decides.{nat_tests}
use Rattle.std.specs.List.{Contains, dedup}
use Rattle.std.specs.List.Sorted.{IsPermutation, IsSortedBy}
use Rattle.std.specs.Ordering.{is_lt}
use Rattle.lic_set.specs.declared.triple.Triple.{Triple}
use Rattle.lic_filters.specs.Filters.{SameMembers, has_range_of, is_inside, is_tight, tight_of}
use Rattle.lic_filters.proofs.Members.{Contains-filter, not-list_any}
use Rattle.lic_filters.proofs.Orders.{by_template, by_template-total, IsAhead, IsAhead-by_template, AllPairs-from_sorted}
use Rattle.lic_filters.proofs.Ranges.{IsInside, IsInside-test, test-IsInside, same_triple, has_range_is, has_another}
use Rattle.lic_filters.proofs.Sweeps.{Sweeps, Ranked-from_pairs, Contains-swept}

-- the last one kept has the template of t, and no greater last token
abbrev pub is_over : Triple → Triple → Bool
is_over t kept = t.template == kept.template && nat_le kept.last t.last

IsInside-trans : (s t u : Triple) → IsInside s t → IsInside t u → IsInside s u
IsInside-trans s t u h k = record { template = omega arith; within = record { first = omega arith; last = omega arith; another = λ e f. omega arith } }

pub inside_itself : (t : Triple) → is_inside t t ≡ true → ⊥
inside_itself t h = (IsInside-test t t h).within.another refl refl

pub inside_through : (s t u : Triple) → is_inside s t ≡ true → is_inside t u ≡ true → is_inside s u ≡ true
inside_through s t u h k = test-IsInside s u (IsInside-trans s t u (IsInside-test s t h) (IsInside-test t u k))

IsInside-past : (s t : Triple) → IsAhead s t → IsInside t s → ⊥
IsInside-past s t ahead h =
    let first : t.first ≤ s.first = ahead.first (omega arith) in
    let last : s.first ≡ t.first → s.last ≤ t.last = ahead.last (omega arith) in
    h.within.another (omega arith) (omega arith)

over_is : (t kept : Triple) → is_over t kept ≡ true → (t.template ≡ kept.template) × (kept.last ≤ t.last)
over_is t kept h = (grind (arith, nat_tests), grind (arith, nat_tests))

not_over : (t kept : Triple) → is_over t kept ≡ false → t.template ≡ kept.template → t.last < kept.last
not_over t kept h e = grind (arith, nat_tests)

IsInside-over : (s t : Triple) → IsAhead s t → is_over t s ≡ true → (s ≡ t) ⊎ (is_inside s t ≡ true)
IsInside-over s t ahead h =
    let over = over_is t s h in
    let first : t.first ≤ s.first = ahead.first (omega arith) in
    (elim (has_range_of s t) as (λ b. has_range_of s t ≡ b → (s ≡ t) ⊎ (is_inside s t ≡ true)) [
      | true ↦ λ e. let same = has_range_is s t e in inl (same_triple s t same.0 same.1 (omega arith))
      | false ↦ λ e. inr (test-IsInside s t
          (record {
            template = omega arith;
            within =
                record { first = first; last = omega arith; another = has_another s t e };
          }))
    ]) refl

IsInside-kept : (s t u : Triple) → IsAhead s t → IsAhead t u → is_over t s ≡ false → IsInside s u → IsInside t u
IsInside-kept s t u before after stays h =
    let template : t.template ≡ s.template = omega arith in
    let first : u.first ≤ t.first = after.first (omega arith) in
    let last : t.last < s.last = not_over t s stays template in
    record { template = omega arith; within = record { first = first; last = omega arith; another = λ e f. omega arith } }

IsInside-next : (s t : Triple) → is_over t s ≡ false → IsInside s t → ⊥
IsInside-next s t stays h =
    let template : t.template ≡ s.template = omega arith in
    let last : t.last < s.last = not_over t s stays template in
    omega arith

pub Sweeps-tight : Sweeps IsAhead is_inside is_over
Sweeps-tight = record {
  itself = inside_itself;
  through = inside_through;
  past = λ x y ahead h. IsInside-past x y ahead (IsInside-test y x h);
  dropped = IsInside-over;
  kept = λ x y z before after stays h. test-IsInside y z (IsInside-kept x y z before after stays (IsInside-test x z h));
  next = λ x y ahead stays h. IsInside-next x y stays (IsInside-test x y h);
}

-- The sweep of a list that is sorted by template leaves its tight members.
pub tight_of-swept : (list sorted : List Triple) → IsPermutation list sorted → IsSortedBy (λ x y. is_lt (by_template x y)) sorted →
    SameMembers (dedup is_over sorted) (tight_of list)
tight_of-swept list sorted moved order =
    let pairs = AllPairs-from_sorted by_template by_template-total sorted order in
    let ranked = Ranked-from_pairs IsAhead is_inside is_over sorted (λ i j d before low.
    IsAhead-by_template (get_or sorted i d) (get_or sorted j d) (pairs i j d before low)) in
    λ t. Contains-swept IsAhead is_inside is_over Sweeps-tight list sorted moved ranked t

-- in a list that is its own tight members none lies inside another of its template
pub no_inside : (list : List Triple) → tight_of list ≡ list → (s t : Triple) → Contains list s → Contains list t → is_inside s t ≡ true → ⊥
no_inside list tight s t in_s in_t =
    let found : Contains (tight_of list) t = subst (λ ts. Contains ts t) (sym tight) in_t in
    let passes = (Contains-filter (is_tight list) list t).0 found in
    (not-list_any (λ u. is_inside u t) list).0 passes.1 s in_s
