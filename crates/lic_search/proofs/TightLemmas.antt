-- The tight ones of some matches are those of all matches, if within each match lies one of them.
use Rattle.std.proofs.Common.{◌≡◌, ◌<◌, ◌≤◌, ◌⊎◌, true, List, None, inl, inr, ⊎_elim, subst, arith}
use Rattle.std.specs.List.{Contains}
use Rattle.std.proofs.lemmas.Bool.{cases_lt}
use Rattle.lic_norm.specs.Tokens.{TokenValue}
use Rattle.lic_set.specs.Sets.{Known}
use Rattle.lic_filters.specs.Filters.{is_inside, is_tight, tight_of}
use Rattle.lic_filters.proofs.Members.{not-list_any}
use Rattle.lic_filters.proofs.Ranges.{IsInside, IsInside-test, test-IsInside, same_triple}
use Rattle.lic_set.specs.Matches.{AreAscending, AreMatches}
use Rattle.lic_set.specs.declared.triple.Triple.{Triple}
use Rattle.lic_search.proofs.Ascending.{Collects, Collects-filter, same_from_members}
use Rattle.lic_search.specs.LeastMatches.{HasLeastMatches}

-- a triple of the same template whose range lies within that of t is t, or lies inside it
same_or_inside : (s t : Triple) → s.template ≡ t.template → t.first ≤ s.first → s.last ≤ t.last → (s ≡ t) ⊎ IsInside s t
same_or_inside s t e first last =
    ⊎_elim (λ (more : t.first < s.first). inr (record { template = e; within = record { first = first; last = last; another = λ f l. omega arith } }))
    (λ (begins : s.first ≤ t.first).
    ⊎_elim (λ (less : s.last < t.last). inr (record { template = e; within = record { first = first; last = last; another = λ f l. omega arith } }))
    (λ (ends : t.last ≤ s.last).
    let same : s.first ≡ t.first = omega arith in
    let until : s.last ≡ t.last = omega arith in
    inl (same_triple s t same until e))
    (cases_lt s.last t.last))
    (cases_lt t.first s.first)

-- what lies within a triple that lies inside another lies inside that
inside_around : (r s t : Triple) → r.template ≡ s.template → s.first ≤ r.first → r.last ≤ s.last → IsInside s t → IsInside r t
inside_around r s t e first last h = record {
  template = omega arith;
  within = record { first = omega arith; last = omega arith; another = λ f l. h.within.another (omega arith) (omega arith) };
}

module _ (set : List Known) (tokens : List TokenValue) (all found : List Triple) (matches : AreMatches set tokens None all)
    (has : HasLeastMatches set tokens found) where
  -- none of a list lies inside a tight one
  none_inside : (list : List Triple) (s t : Triple) → is_tight list t ≡ true → Contains list s → ¬ (IsInside s t)
  none_inside list s t tight h inside = (not-list_any (λ u. is_inside u t) list).0 tight s h (test-IsInside s t inside)

  tight_if : (list : List Triple) (t : Triple) → ((s : Triple) → Contains list s → ¬ (IsInside s t)) → is_tight list t ≡ true
  tight_if list t none = (not-list_any (λ u. is_inside u t) list).1 (λ s h test. none s h (IsInside-test s t test))

  among_all : (t : Triple) → Contains found t → Contains all t
  among_all t h = (matches.exact t).1 (has.sound t h, tt)

  tight_in_all : (t : Triple) → is_tight found t ≡ true → is_tight all t ≡ true
  tight_in_all t tight =
      tight_if all t (λ s h inside.
      let (r, among, template, first, last) = has.within s ((matches.exact s).0 h).0 in
      none_inside found r t tight among (inside_around r s t template first last inside))

  tight_in_found : (t : Triple) → is_tight all t ≡ true → is_tight found t ≡ true
  tight_in_found t tight = tight_if found t (λ s h inside. none_inside all s t tight (among_all s h) inside)

  among_found : (t : Triple) → Contains all t → is_tight all t ≡ true → Contains found t
  among_found t h tight =
      let (s, among, template, first, last) = has.within t ((matches.exact t).0 h).0 in
      ⊎_elim (λ (same : s ≡ t). subst (Contains found) same among)
      (λ inside. absurd (none_inside all s t tight (among_all s among) inside))
      (same_or_inside s t template first last)

  pub tight_of-least : AreAscending found → tight_of found ≡ tight_of all
  tight_of-least ascending =
      let few : Collects (λ t. Contains found t × (is_tight found t ≡ true)) (tight_of found) =
      Collects-filter (is_tight found) (Contains found) found (record { ascending = ascending; exact = λ t. (λ h. h, λ h. h) }) in
      let most : Collects (λ t. Contains all t × (is_tight all t ≡ true)) (tight_of all) =
      Collects-filter (is_tight all) (Contains all) all (record { ascending = matches.ascending; exact = λ t. (λ h. h, λ h. h) }) in
      same_from_members (tight_of found) (tight_of all) few.ascending most.ascending
      (λ t h. let is = (few.exact t).0 h in (most.exact t).1 (among_all t is.0, tight_in_all t is.1))
      (λ t h. let is = (most.exact t).0 h in (few.exact t).1 (among_found t is.0 is.1, tight_in_found t is.1))
