-- The matches of the templates of some numbers, as a list that computes.
use Rattle.std.proofs.Common.{◌≡◌, ℕ, ◌==◌, ◌||◌, Bool, true, false, List, [], ◌∷◌, Option, refl, sym, ◌∙◌, ⊎_elim}
use Rattle.std.specs.List.{Contains, list_any}
use Rattle.std.proofs.lemmas.Bool.{false≢true, eqb-true, eq-eqb}
use Rattle.std.proofs.lemmas.Map.Views.{Contains-from_any}
use Rattle.lic_norm.specs.Tokens.{TokenValue}
use Rattle.lic_set.specs.Matches.{AreMatches, IsAfter, IsMatch}
use Rattle.lic_set.specs.Sets.{Known}
use Rattle.lic_set.specs.declared.triple.Triple.{Triple}
use Rattle.lic_find.specs.Among.{AreMatchesAmong, HaveAllMatches, IsMatchAmong}
use Rattle.lic_find.specs.Listing.{is_among, matches_after, matches_among}
use Rattle.lic_find.proofs.Collecting.{Collects, Collects-filter}
use Rattle.lic_find.proofs.Triples.{Contains-nil, Contains-cons_cases}

pub either_test : (a b : Bool) (P : Bool → Type 0) → (a ≡ true → P true) → (a ≡ false → P b) → P (a || b)
either_test true b P passes fails = passes refl
either_test false b P passes fails = fails refl

-- a number that is one of them passes the test
passes_among : (k : ℕ) (numbers : List ℕ) → Contains numbers k → list_any (λ n. k == n) numbers ≡ true
passes_among k [] there = absurd (Contains-nil k there)
passes_among k (n ∷ numbers) there =
    ⊎_elim
    (λ (e : n ≡ k).
    either_test (k == n) (list_any (λ n. k == n) numbers) (λ b. b ≡ true) (λ passes. refl)
    (λ fails. absurd (false≢true (sym fails ∙ eq-eqb k n (sym e)))))
    (λ later.
    either_test (k == n) (list_any (λ n. k == n) numbers) (λ b. b ≡ true) (λ passes. refl)
    (λ fails. passes_among k numbers later))
    (Contains-cons_cases n numbers k there)

module _ (set : List Known) (tokens : List TokenValue) where
  pub Collects-matches : (after : Option Triple) (found : List Triple) → AreMatches set tokens after found →
      Collects (λ t. IsMatch set tokens t × IsAfter after t) found
  Collects-matches after found m = record { ascending = m.ascending; exact = m.exact }

  module _ (numbers : List ℕ) where
    -- those of all matches whose template has one of the numbers
    pub AreMatchesAmong-listed : (after : Option Triple) → AreMatches set tokens after (matches_after set tokens after) →
        AreMatchesAmong set tokens numbers after (matches_among set tokens numbers after)
    unfolding matches_among
    AreMatchesAmong-listed after m =
        let found = Collects-filter (is_among numbers) (λ t. IsMatch set tokens t × IsAfter after t) (matches_after set tokens after)
        (Collects-matches after (matches_after set tokens after) m) in
        record {
          ascending = found.ascending;
          exact = λ t. (
            λ h.
                let p = (found.exact t).0 h in
                (p.0.0, Contains-from_any {eq = λ a b. a == b} (λ a b same. eqb-true a b same) t.template numbers p.1, p.0.1),
            λ (match, among, later). (found.exact t).1 ((match, later), passes_among t.template numbers among),
          );
        }

    pub Collects-among : (after : Option Triple) (found : List Triple) → AreMatchesAmong set tokens numbers after found →
        Collects (λ t. IsMatchAmong set tokens numbers t × IsAfter after t) found
    Collects-among after found m = record {
      ascending = m.ascending;
      exact = λ t. (
        λ h. let p = (m.exact t).0 h in ((p.0, p.1), p.2),
        λ ((match, among), later). (m.exact t).1 (match, among, later),
      );
    }

    -- where the template of each match has one of the numbers, they are all matches
    pub AreMatches-among : HaveAllMatches set tokens numbers → (after : Option Triple) (found : List Triple) →
        AreMatchesAmong set tokens numbers after found → AreMatches set tokens after found
    AreMatches-among all after found m = record {
      ascending = m.ascending;
      exact = λ t. (
        λ h. let p = (m.exact t).0 h in (p.0, p.2),
        λ (match, later). (m.exact t).1 (match, all t match, later),
      );
    }
