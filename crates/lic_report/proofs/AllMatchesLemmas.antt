-- The matches of bundles and those of the other templates, merged.
use Rattle.std.proofs.Common.{ℕ, ◌⊎◌, ◌↔◌, List, Option, inl, inr, ⊎_elim, sym, subst}
use Rattle.std.specs.List.{All, Contains}
use Rattle.lic_norm.specs.Tokens.{TokenValue}
use Rattle.lic_set.specs.Sets.{Known}
use Rattle.lic_set.specs.Matches.{AreAscending, AreMatches, IsAfter, IsMatch}
use Rattle.lic_set.specs.declared.triple.Triple.{Triple}
use Rattle.lic_bundles.specs.Bundles.{AreTriples}
use Rattle.lic_bundles.specs.declared.bundle.Bundle.{Bundle}
use Rattle.lic_search.specs.AllMatches.{BundlesHold}
use Rattle.lic_report.specs.Merging.{merged}
use Rattle.lic_report.proofs.BundlingLemmas.{held_by_any, held_by_bundles}
use Rattle.lic_report.proofs.MergingLemmas.{Contains-merged, Contains-merged_cases, AreAscending-merged}

-- bundles have the matches of all templates but those that are left
module _ (set : List Known) (tokens : List TokenValue) (bundles : List Bundle) (left : List ℕ)
    (sound : (t : Triple) → BundlesHold bundles t → IsMatch set tokens t)
    (others : All (λ bundle. Contains left bundle.template → ⊥) bundles)
    (complete : (t : Triple) → IsMatch set tokens t → BundlesHold bundles t ⊎ Contains left t.template) where
  of_others : (t : Triple) → BundlesHold bundles t → Contains left t.template → ⊥
  of_others t held among =
      let (k, within, is) = held.among in
      others k held.bundle within (subst (λ bundle. Contains left bundle.template) (sym is) (subst (Contains left) held.is.template among))

  -- those of the bundles after a triple, and those that are found of the others, are all matches after the triple
  pub merged_matches : (after : Option Triple) (known found : List Triple) → AreTriples bundles after known → AreAscending found
      → ((t : Triple) → Contains found t ↔ (IsMatch set tokens t × Contains left t.template × IsAfter after t))
      → AreMatches set tokens after (merged known found)
  merged_matches after known found bundled ascending exact = record {
    ascending =
        AreAscending-merged known found bundled.ascending ascending
        (λ t h k. of_others t (held_by_bundles bundles t ((bundled.exact t).0 h).0) ((exact t).0 k).1);
    exact = λ t. (
      λ h.
          ⊎_elim (λ k. let of = (bundled.exact t).0 k in (sound t (held_by_bundles bundles t of.0), of.1)) (λ k. let of = (exact t).0 k in (of.0, of.2))
          (Contains-merged_cases known found t h),
      λ h.
          Contains-merged known found t
          (⊎_elim (λ held. inl ((bundled.exact t).1 (held_by_any bundles t held, h.1))) (λ among. inr ((exact t).1 (h.0, among, h.1)))
          (complete t h.0)),
    );
  }
