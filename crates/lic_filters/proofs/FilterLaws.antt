-- What holds of the tight and the outer members of every list.
use Rattle.std.proofs.Common.{◌≡◌, ◌≤◌, ◌⊎◌, Bool, true, not, List, refl, sym, ap, ◌∙◌, subst, ⊎_elim, arith}
use Rattle.std.specs.List.{Contains, list_any}
use Rattle.lic_set.specs.declared.triple.Triple.{Triple}
use Rattle.lic_filters.specs.Filters.{is_inside, is_around, is_tight, is_outer, tight_of, outermost_of, outer_of}
use Rattle.lic_filters.proofs.Members.{Contains-filter, not-list_any, filter-all}
use Rattle.lic_filters.proofs.Ranges.{IsInside-test, IsStrictlyWithin-test}
use Rattle.lic_filters.proofs.Sweeps.{unbeaten_below}
use Rattle.lic_filters.proofs.TightLemmas.{inside_itself, inside_through}
use Rattle.lic_filters.proofs.OutermostLemmas.{is_outside, is_outer-outside, outside_itself, outside_through}

pub Contains-tight_of : (list : List Triple) (t : Triple) → Contains (tight_of list) t → Contains list t
Contains-tight_of list t h = ((Contains-filter (is_tight list) list t).0 h).0

pub Contains-outer_of : (list : List Triple) (t : Triple) → Contains (outer_of list) t → Contains (tight_of list) t
Contains-outer_of list t h = ((Contains-filter (is_outer (tight_of list)) (tight_of list) t).0 h).0

-- what no member of a list passes, no member of a part of it does
none_of_part : (test : Triple → Bool) (list part : List Triple) → ((s : Triple) → Contains part s → Contains list s) →
    not (list_any test list) ≡ true → not (list_any test part) ≡ true
none_of_part test list part within none =
    (not-list_any test part).1 (λ s h. (not-list_any test list).0 none s (within s h))

-- tight members are tight in each part of the list
tight_of-part : (list part : List Triple) → ((s : Triple) → Contains part s → Contains (tight_of list) s) → tight_of part ≡ part
tight_of-part list part within =
    filter-all (is_tight part) part
    (λ t h. none_of_part (λ s. is_inside s t) list part (λ s k. Contains-tight_of list s (within s k))
    ((Contains-filter (is_tight list) list t).0 (within t h)).1)

pub tight_of-tight_of : (list : List Triple) → tight_of (tight_of list) ≡ tight_of list
tight_of-tight_of list = tight_of-part list (tight_of list) (λ s h. h)

outermost_of-outer_of : (list : List Triple) → outermost_of (outer_of list) ≡ outer_of list
outermost_of-outer_of list =
    filter-all (is_outer (outer_of list)) (outer_of list)
    (λ t h. none_of_part (λ s. is_around s t) (tight_of list) (outer_of list) (Contains-outer_of list)
    ((Contains-filter (is_outer (tight_of list)) (tight_of list) t).0 h).1)

pub outer_of-outer_of : (list : List Triple) → outer_of (outer_of list) ≡ outer_of list
outer_of-outer_of list = ap outermost_of (tight_of-part list (outer_of list) (Contains-outer_of list)) ∙ outermost_of-outer_of list

-- what is t or a member of a list is one, if t is
reached_among : (beats : Triple → Triple → Bool) (list : List Triple) (t s : Triple) → Contains list t → (s ≡ t) ⊎ (Contains list s × (beats s t ≡ true)) →
    Contains list s
reached_among beats list t s known reached = ⊎_elim (λ (e : s ≡ t). subst (Contains list) (sym e) known) (λ h. h.0) reached

-- t or what lies inside it lies within it
within_reached : (list : List Triple) (s t : Triple) → (s ≡ t) ⊎ (Contains list s × (is_inside s t ≡ true))
    → (s.template ≡ t.template) × (t.first ≤ s.first) × (s.last ≤ t.last)
within_reached list s t reached =
    ⊎_elim (λ (e : s ≡ t). subst (λ u. (u.template ≡ t.template) × (t.first ≤ u.first) × (u.last ≤ t.last)) (sym e) (refl, omega arith, omega arith))
    (λ h. let inside = IsInside-test s t h.1 in (inside.template, inside.within.first, inside.within.last)) reached

pub tight_within : (list : List Triple) (t : Triple) → Contains list t →
    (s : Triple) × Contains (tight_of list) s × (s.template ≡ t.template) × (t.first ≤ s.first) × (s.last ≤ t.last)
tight_within list t known =
    let (s, reached, free) = unbeaten_below is_inside inside_itself inside_through list t in
    let among = (Contains-filter (is_tight list) list s).1 (reached_among is_inside list t s known reached, (not-list_any (λ u. is_inside u s) list).1 free) in
    let within = within_reached list s t reached in
    (s, among, within.0, within.1, within.2)

around_reached : (list : List Triple) (s t : Triple) → (s ≡ t) ⊎ (Contains list s × (is_outside s t ≡ true)) → (s.first ≤ t.first) × (t.last ≤ s.last)
around_reached list s t reached =
    ⊎_elim (λ (e : s ≡ t). subst (λ u. (u.first ≤ t.first) × (t.last ≤ u.last)) (sym e) (omega arith, omega arith))
    (λ h. let within = IsStrictlyWithin-test t s h.1 in (within.first, within.last)) reached

pub outer_around : (list : List Triple) (t : Triple) → Contains (tight_of list) t →
    (s : Triple) × Contains (outer_of list) s × (s.first ≤ t.first) × (t.last ≤ s.last)
outer_around list t known =
    let tight = tight_of list in
    let (s, reached, free) = unbeaten_below is_outside outside_itself outside_through tight t in
    let in_s = reached_among is_outside tight t s known reached in
    let passes : is_outer tight s ≡ true =
    sym (is_outer-outside tight (tight_of-tight_of list) s in_s) ∙ (not-list_any (λ u. is_outside u s) tight).1 free in
    let among = (Contains-filter (is_outer tight) tight s).1 (in_s, passes) in
    let around = around_reached tight s t reached in
    (s, among, around.0, around.1)
