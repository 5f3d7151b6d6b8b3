-- The parts of bundles that come after a triple, as they wait to be given.
use Rattle.std.proofs.Common.{◌≡◌, ◌<◌, ◌≤◌, List, [], Option, sym, subst, arith}
use Rattle.std.specs.List.{All, AllPairs, filter_map}
use Rattle.std.specs.List.Sorted.{IsPermutation}
use Rattle.std.proofs.lemmas.List.Elements.{All-nil}
use Rattle.std.proofs.lemmas.List.Sorted.{All-permutation}
use Rattle.lic_set.specs.Matches.{IsAfter}
use Rattle.lic_set.specs.declared.triple.Triple.{Triple}
use Rattle.lic_bundles.specs.declared.bundle.Bundle.{Bundle}
use Rattle.lic_bundles.specs.Bundles.{AreApart, AreTriples, part_after}
use Rattle.lic_bundles.specs.Listing.{all_triples}
use Rattle.lic_bundles.specs.Merging.{count_of, IsNoLater, IsNoLaterThanNext, AreQueues}
use Rattle.lic_bundles.proofs.Counting.{count-IsPermutation, counted-Any, Any-counted, once_from_apart}
use Rattle.lic_bundles.proofs.ListingLemmas.{AreAscending-all_triples, Contains-all_triples, counted-all_triples, all_triples-unique}
use Rattle.lic_bundles.proofs.Parts.{counted_parts, parts_counted, count-parts, filled_parts}

module _ (bundles : List Bundle) (after : Option Triple) (parts : List Bundle)
    (same : IsPermutation (filter_map (part_after after) bundles) parts) where
  count-waiting : (t : Triple) → count_of t parts ≡ count_of t (filter_map (part_after after) bundles)
  count-waiting t = count-IsPermutation t (filter_map (part_after after) bundles) parts same

  sound : (t : Triple) → 0 < count_of t parts → (0 < count_of t bundles) × IsAfter after t
  sound t h = parts_counted after bundles t (subst (λ n. 0 < n) (count-waiting t) h)

  complete : (t : Triple) → 0 < count_of t bundles → IsAfter after t → 0 < count_of t parts
  complete t h later = subst (λ n. 0 < n) (sym (count-waiting t)) (counted_parts after bundles t h later)

  pub AreQueues-waiting : AreApart bundles → AllPairs IsNoLater parts → AreQueues [] parts
  AreQueues-waiting apart sorted = record {
    filled = All-permutation (λ b. b.from ≤ b.to) (filter_map (part_after after) bundles) parts same (filled_parts after bundles);
    once = λ t. omega (arith, count-waiting t, count-parts after bundles t, once_from_apart bundles apart t);
    begun_sorted = λ i j d less high. absurd (omega arith);
    waiting_sorted = sorted;
    close = All-nil (λ b. All (IsNoLaterThanNext b) parts);
  }

  pub AreTriples-waiting : AreTriples bundles after (all_triples parts)
  AreTriples-waiting = record {
    ascending = AreAscending-all_triples parts;
    exact = λ t. (
      (λ h. let (some, later) = sound t (counted-all_triples parts t h) in (Any-counted t bundles some, later)),
      (λ (h, later). Contains-all_triples parts t (complete t (counted-Any t bundles h) later)),
    );
  }

  pub AreTriples-only : (others : List Triple) → AreTriples bundles after others → others ≡ all_triples parts
  AreTriples-only others all =
      all_triples-unique parts others all.ascending
      (λ t h. let (some, later) = (all.exact t).0 h in complete t (counted-Any t bundles some) later)
      (λ t h. let (some, later) = sound t h in (all.exact t).1 (Any-counted t bundles some, later))
