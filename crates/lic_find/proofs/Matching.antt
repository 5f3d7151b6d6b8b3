-- Lists of matches.
use Rattle.std.proofs.Common.{◌≡◌, ℕ, List, [], ◌∷◌, Option, Some, None, refl, subst, ⊎_elim}
use Rattle.std.proofs.Math.Logic.{∥∥₁_elim}
use Rattle.std.specs.Coded.{Coded, Coded-set, code_by, coded×, coded_ℕ, coded_list}
use Rattle.std.specs.List.{Contains}
use Rattle.lic_norm.specs.Tokens.{TokenValue}
use Rattle.lic_set.specs.Sets.{Known}
use Rattle.lic_find.specs.Among.{IsMatchAmong}
use Rattle.lic_find.specs.Listing.{matches_after, matches_among}
use Rattle.lic_set.specs.Matches.{AreMatches, IsAfter, IsMatch, Precedes, triple_at}
use Rattle.lic_find.specs.Scans.{IsNext}
use Rattle.lic_set.specs.declared.triple.Triple.{Triple}
use Rattle.lic_find.proofs.AmongLemmas.{AreMatchesAmong-listed, Collects-among, Collects-matches}
use Rattle.lic_find.proofs.Collecting.{Collects}
use Rattle.lic_find.proofs.Triples.{same_from_members, not_before, Precedes-trans, Contains-head, Contains-tail, Contains-cons_cases}

pub AreMatches-unique : (set : List Known) (tokens : List TokenValue) (after : Option Triple) (xs ys : List Triple) →
    AreMatches set tokens after xs → AreMatches set tokens after ys → xs ≡ ys
AreMatches-unique set tokens after xs ys m n =
    same_from_members xs ys m.ascending n.ascending (λ t h. (n.exact t).1 ((m.exact t).0 h)) (λ t h. (m.exact t).1 ((n.exact t).0 h))

IsAfter-trans : (cursor : Option Triple) (s t : Triple) → IsAfter cursor s → Precedes s t → IsAfter cursor t
IsAfter-trans None s t h k = tt
IsAfter-trans (Some cursor) s t h k = Precedes-trans cursor s t h k

module _ (P : Triple → Type 0) (cursor : Option Triple) where
  -- the first after a cursor, and those after it
  Collects-next : (t : Triple) (xs ys : List Triple) → IsNext P cursor t → Collects (λ s. P s × IsAfter cursor s) xs →
      Collects (λ s. P s × IsAfter (Some t) s) ys → xs ≡ t ∷ ys
  Collects-next t xs ys next old new =
      same_from_members xs (t ∷ ys) old.ascending (λ s h. ((new.exact s).0 h).1, new.ascending)
      (λ s h.
      let p = (old.exact s).0 h in
      ⊎_elim (λ (e : t ≡ s). subst (λ u. Contains (t ∷ ys) u) e (Contains-head t ys))
      (λ k. Contains-tail t ys s ((new.exact s).1 (p.0, k)))
      (not_before s t (next.least s p.0 p.1)))
      (λ s h.
      (old.exact s).1 (⊎_elim (λ (e : t ≡ s). subst (λ u. P u × IsAfter cursor u) e (next.matches, next.after))
      (λ k. let p = (new.exact s).0 k in (p.0, IsAfter-trans cursor t s next.after p.1))
      (Contains-cons_cases t ys s h)))

  Collects-no_one : (xs : List Triple) → Collects (λ s. P s × IsAfter cursor s) xs → ((t : Triple) → P t → IsAfter cursor t → ⊥) → xs ≡ []
  Collects-no_one [] c none = refl
  Collects-no_one (x ∷ xs) c none = let p = (c.exact x).0 (Contains-head x xs) in absurd (none x p.0 p.1)

module _ (set : List Known) (tokens : List TokenValue) (listed : (after : Option Triple) → AreMatches set tokens after (matches_after set tokens after)) where
  matching : (cursor : Option Triple) → Collects (λ t. IsMatch set tokens t × IsAfter cursor t) (matches_after set tokens cursor)
  matching cursor = Collects-matches set tokens cursor (matches_after set tokens cursor) (listed cursor)

  -- the first of the matches after a cursor, and those after it
  pub matches_after-next : (cursor : Option Triple) (t : Triple) → IsNext (IsMatch set tokens) cursor t
      → matches_after set tokens cursor ≡ t ∷ matches_after set tokens (Some t)
  matches_after-next cursor t next =
      Collects-next (IsMatch set tokens) cursor t (matches_after set tokens cursor)
      (matches_after set tokens (Some t)) next (matching cursor) (matching (Some t))

  pub matches_after-none : (cursor : Option Triple) → ((t : Triple) → IsMatch set tokens t → IsAfter cursor t → ⊥) → matches_after set tokens cursor ≡ []
  matches_after-none cursor none = Collects-no_one (IsMatch set tokens) cursor (matches_after set tokens cursor) (matching cursor) none

  -- the same of the matches of some templates
  module _ (numbers : List ℕ) where
    among : (cursor : Option Triple)
        → Collects (λ t. IsMatchAmong set tokens numbers t × IsAfter cursor t) (matches_among set tokens numbers cursor)
    among cursor =
        Collects-among set tokens numbers cursor (matches_among set tokens numbers cursor)
        (AreMatchesAmong-listed set tokens numbers cursor (listed cursor))

    pub matches_among-next : (cursor : Option Triple) (t : Triple) → IsNext (IsMatchAmong set tokens numbers) cursor t
        → matches_among set tokens numbers cursor ≡ t ∷ matches_among set tokens numbers (Some t)
    matches_among-next cursor t next =
        Collects-next (IsMatchAmong set tokens numbers) cursor t (matches_among set tokens numbers cursor)
        (matches_among set tokens numbers (Some t)) next (among cursor) (among (Some t))

    pub matches_among-none : (cursor : Option Triple) → ((t : Triple) → IsMatchAmong set tokens numbers t → IsAfter cursor t → ⊥)
        → matches_among set tokens numbers cursor ≡ []
    matches_among-none cursor none =
        Collects-no_one (IsMatchAmong set tokens numbers) cursor (matches_among set tokens numbers cursor) (among cursor) none

-- triples as their numbers, by which they are distinguished
abbrev triple_code : Coded Triple
triple_code =
    code_by (ℕ × (ℕ × ℕ)) (coded× coded_ℕ (coded× coded_ℕ coded_ℕ)) (λ t. (t.first, (t.last, t.template)))
    (λ p. triple_at p.0 p.1.0 p.1.1) (λ _. refl)

-- an equation of lists of triples has at most one proof
pub same_list : (xs ys : List Triple) → ∥ xs ≡ ys ∥₁ → xs ≡ ys
same_list xs ys same = ∥∥₁_elim same (Coded-set (coded_list triple_code) xs ys) (λ e. e)
