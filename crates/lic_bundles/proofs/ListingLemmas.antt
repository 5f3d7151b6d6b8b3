-- The computed list of all triples has exactly the triples of the bundles, in order.
use Rattle.std.proofs.Common.{◌≡◌, ℕ, ◌+◌, ◌-◌, ◌<◌, ◌≤◌, zero, suc, cond, ◌⊎◌, List, [], ◌∷◌, sym, ap, ◌∙◌, subst, inl, inr, ⊎_elim, arith}
use Rattle.std.specs.List.{Contains}
use Rattle.std.proofs.lemmas.Bool.{cases_Bool, cases_lt, cond-true, cond-false}
use Rattle.std.proofs.lemmas.Bool.Decides.{not_from_Decides}
use Rattle.lic_set.specs.Matches.{Precedes, AreAscending, triple_at, precedes}
use Rattle.lic_set.specs.declared.triple.Triple.{Triple}
use Rattle.lic_bundles.specs.declared.bundle.Bundle.{Bundle}
use Rattle.lic_bundles.specs.Listing.{put, put_bundle, all_triples}
use Rattle.lic_bundles.specs.Merging.{count_of}
use Rattle.lic_bundles.proofs.Counting.{counted-head, counted-tail, counted_cases}
use Rattle.lic_bundles.proofs.TripleOrder.{same_parts, not_before, Precedes-trans, same_from_members, Decides-precedes, Contains-head, Contains-tail, Contains-cons_cases, Contains-nil}

-- Where a triple goes in a list: to its beginning, into the others, or nowhere, since it is the first.
data PutCases (t s : Triple) (ss : List Triple) : Type 0 where
  before : Precedes t s → put t (s ∷ ss) ≡ t ∷ (s ∷ ss) → PutCases t s ss
  after : Precedes s t → put t (s ∷ ss) ≡ s ∷ put t ss → PutCases t s ss
  there : t ≡ s → put t (s ∷ ss) ≡ s ∷ ss → PutCases t s ss

put_cases : (t s : Triple) (ss : List Triple) → PutCases t s ss
put_cases t s ss =
    elim (cases_Bool (precedes t s)) [
      | inl holds ↦ before ((Decides-precedes t s).0 holds) (cond-true (precedes t s) (t ∷ (s ∷ ss)) (cond (precedes s t) (s ∷ put t ss) (s ∷ ss)) holds)
      | inr fails ↦
          let not_first = cond-false (precedes t s) (t ∷ (s ∷ ss)) (cond (precedes s t) (s ∷ put t ss) (s ∷ ss)) fails in
          elim (cases_Bool (precedes s t)) [
            | inl holds ↦ after ((Decides-precedes s t).0 holds) (not_first ∙ cond-true (precedes s t) (s ∷ put t ss) (s ∷ ss) holds)
            | inr neither ↦
                there
                (⊎_elim (λ (e : s ≡ t). sym e) (λ below. absurd (not_from_Decides _ (Decides-precedes s t) neither below))
                (not_before t s (not_from_Decides _ (Decides-precedes t s) fails)))
                (not_first ∙ cond-false (precedes s t) (s ∷ put t ss) (s ∷ ss) neither)
          ]
    ]

Contains-put : (t : Triple) (ss : List Triple) → Contains (put t ss) t
Contains-put t [] = Contains-head t []
Contains-put t (s ∷ ss) =
    elim (put_cases t s ss) [
      | before _ e ↦ subst (λ ts. Contains ts t) (sym e) (Contains-head t (s ∷ ss))
      | after _ e ↦ subst (λ ts. Contains ts t) (sym e) (Contains-tail s (put t ss) t (Contains-put t ss))
      | there same e ↦ subst (λ ts. Contains ts t) (sym e) (subst (λ u. Contains (s ∷ ss) u) (sym same) (Contains-head s ss))
    ]

Contains-put_others : (t : Triple) (ss : List Triple) (u : Triple) → Contains ss u → Contains (put t ss) u
Contains-put_others t [] u h = absurd (Contains-nil u h)
Contains-put_others t (s ∷ ss) u h =
    elim (put_cases t s ss) [
      | before _ e ↦ subst (λ ts. Contains ts u) (sym e) (Contains-tail t (s ∷ ss) u h)
      | there _ e ↦ subst (λ ts. Contains ts u) (sym e) h
      | after _ e ↦
          subst (λ ts. Contains ts u) (sym e)
          (⊎_elim (λ (same : s ≡ u). subst (λ v. Contains (s ∷ put t ss) v) same (Contains-head s (put t ss)))
          (λ k. Contains-tail s (put t ss) u (Contains-put_others t ss u k)) (Contains-cons_cases s ss u h))
    ]

Contains-put_cases : (t : Triple) (ss : List Triple) (u : Triple) → Contains (put t ss) u → (t ≡ u) ⊎ Contains ss u
Contains-put_cases t [] u h = Contains-cons_cases t [] u h
Contains-put_cases t (s ∷ ss) u h =
    elim (put_cases t s ss) [
      | before _ e ↦ Contains-cons_cases t (s ∷ ss) u (subst (λ ts. Contains ts u) e h)
      | there _ e ↦ inr (subst (λ ts. Contains ts u) e h)
      | after _ e ↦
          ⊎_elim (λ (same : s ≡ u). inr (subst (λ v. Contains (s ∷ ss) v) same (Contains-head s ss)))
          (λ k. ⊎_elim (λ (own : t ≡ u). inl own) (λ m. inr (Contains-tail s ss u m)) (Contains-put_cases t ss u k))
          (Contains-cons_cases s (put t ss) u (subst (λ ts. Contains ts u) e h))
    ]

AreAscending-put : (t : Triple) (ss : List Triple) → AreAscending ss → AreAscending (put t ss)
AreAscending-put t [] rise = (λ u h. absurd (Contains-nil u h), tt)
AreAscending-put t (s ∷ ss) rise =
    elim (put_cases t s ss) [
      | before below e ↦
          subst AreAscending (sym e)
          (λ u h. ⊎_elim (λ (same : s ≡ u). subst (Precedes t) same below) (λ k. Precedes-trans t s u below (rise.0 u k)) (Contains-cons_cases s ss u h), rise)
      | there _ e ↦ subst AreAscending (sym e) rise
      | after below e ↦
          subst AreAscending (sym e)
          (λ u h. ⊎_elim (λ (same : t ≡ u). subst (Precedes s) same below) (λ k. rise.0 u k) (Contains-put_cases t ss u h), AreAscending-put t ss rise.1)
    ]

-- that many triples of a bundle, from its first on
record IsOfBundle (n : ℕ) (b : Bundle) (t : Triple) : Type 0 where
  from : b.from ≤ t.first
  to : t.first < b.from + n
  last : t.last ≡ b.last
  template : t.template ≡ b.template

Contains-put_bundle : (n : ℕ) (b : Bundle) (ss : List Triple) (t : Triple) → IsOfBundle n b t → Contains (put_bundle n b ss) t
Contains-put_bundle zero b ss t h = absurd (omega (arith, h.from, h.to))
Contains-put_bundle (suc n) b ss t h =
    let own : Triple = triple_at (b.from + n) b.last b.template in
    elim (cases_lt t.first (b.from + n)) [
      | inl less ↦ Contains-put_others own (put_bundle n b ss) t (Contains-put_bundle n b ss t (record { from = h.from; to = less; last = h.last; template = h.template }))
      | inr high ↦
          let at : t.first ≡ b.from + n = omega (arith, h.to) in
          subst (λ u. Contains (put own (put_bundle n b ss)) u) (same_parts t own at h.last h.template) (Contains-put own (put_bundle n b ss))
    ]

Contains-put_bundle_others : (n : ℕ) (b : Bundle) (ss : List Triple) (t : Triple) → Contains ss t → Contains (put_bundle n b ss) t
Contains-put_bundle_others zero b ss t h = h
Contains-put_bundle_others (suc n) b ss t h = Contains-put_others _ (put_bundle n b ss) t (Contains-put_bundle_others n b ss t h)

Contains-put_bundle_cases : (n : ℕ) (b : Bundle) (ss : List Triple) (t : Triple) → Contains (put_bundle n b ss) t → IsOfBundle n b t ⊎ Contains ss t
Contains-put_bundle_cases zero b ss t h = inr h
Contains-put_bundle_cases (suc n) b ss t h =
    let own : Triple = triple_at (b.from + n) b.last b.template in
    elim (Contains-put_cases own (put_bundle n b ss) t h) [
      | inl same ↦
          let first : b.from + n ≡ t.first = ap (λ u. u.first) same in
          inl (record { from = omega arith; to = omega arith; last = sym (ap (λ u. u.last) same); template = sym (ap (λ u. u.template) same) })
      | inr more ↦
          ⊎_elim (λ (part : IsOfBundle n b t). inl (record { from = part.from; to = omega (arith, part.to); last = part.last; template = part.template })) (λ k. inr k)
          (Contains-put_bundle_cases n b ss t more)
    ]

AreAscending-put_bundle : (n : ℕ) (b : Bundle) (ss : List Triple) → AreAscending ss → AreAscending (put_bundle n b ss)
AreAscending-put_bundle zero b ss rise = rise
AreAscending-put_bundle (suc n) b ss rise = AreAscending-put _ (put_bundle n b ss) (AreAscending-put_bundle n b ss rise)

pub AreAscending-all_triples : (bs : List Bundle) → AreAscending (all_triples bs)
unfolding all_triples
AreAscending-all_triples [] = tt
AreAscending-all_triples (b ∷ bs) = AreAscending-put_bundle (b.to + 1 - b.from) b (all_triples bs) (AreAscending-all_triples bs)

pub Contains-all_triples : (bs : List Bundle) (t : Triple) → 0 < count_of t bs → Contains (all_triples bs) t
unfolding all_triples
Contains-all_triples [] t h = absurd (omega arith)
Contains-all_triples (b ∷ bs) t h =
    elim (counted_cases t b bs h) [
      | inl of ↦
          let from : b.from ≤ t.first = of.from in
          let to : t.first ≤ b.to = of.to in
          Contains-put_bundle (b.to + 1 - b.from) b (all_triples bs) t (record { from = from; to = omega arith; last = of.last; template = of.template })
      | inr more ↦ Contains-put_bundle_others (b.to + 1 - b.from) b (all_triples bs) t (Contains-all_triples bs t more)
    ]

pub counted-all_triples : (bs : List Bundle) (t : Triple) → Contains (all_triples bs) t → 0 < count_of t bs
unfolding all_triples
counted-all_triples [] t h = absurd (Contains-nil t h)
counted-all_triples (b ∷ bs) t h =
    elim (Contains-put_bundle_cases (b.to + 1 - b.from) b (all_triples bs) t h) [
      | inl part ↦
          let from : b.from ≤ t.first = part.from in
          let to : t.first < b.from + (b.to + 1 - b.from) = part.to in
          counted-head t b bs (record { from = from; to = omega arith; last = part.last; template = part.template })
      | inr more ↦ counted-tail t b bs (counted-all_triples bs t more)
    ]

-- An ascending list that has exactly the triples which are counted is the list of all.
pub all_triples-unique : (bs : List Bundle) (ts : List Triple) → AreAscending ts
    → ((t : Triple) → Contains ts t → 0 < count_of t bs) → ((t : Triple) → 0 < count_of t bs → Contains ts t) → ts ≡ all_triples bs
all_triples-unique bs ts rise sound complete =
    same_from_members ts (all_triples bs) rise (AreAscending-all_triples bs) (λ t h. Contains-all_triples bs t (sound t h))
    (λ t h. complete t (counted-all_triples bs t h))

-- bundles of which the same triples are counted
pub all_triples-same : (bs cs : List Bundle) → ((t : Triple) → count_of t bs ≡ count_of t cs) → all_triples bs ≡ all_triples cs
all_triples-same bs cs same =
    all_triples-unique cs (all_triples bs) (AreAscending-all_triples bs)
    (λ t h. subst (λ n. 0 < n) (same t) (counted-all_triples bs t h))
    (λ t h. Contains-all_triples bs t (subst (λ n. 0 < n) (sym (same t)) h))
