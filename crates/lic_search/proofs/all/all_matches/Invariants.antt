-- The matches of the templates so far.
use Rattle.std.proofs.Common.{◌+◌, ◌≤◌, length, map, take}
use Rattle.lic_set.specs.Candidates.{number_of}
use Rattle.lic_search.proofs.AllMatchLemmas.{HasAllOf}
use Rattle.lic_search.proofs.all.all_matches.Given as goal

abbrev pub invariant-loop-candidate : goal.invariant-loop-candidate
invariant-loop-candidate l = record {
  has : HasAllOf l.set l.text.tokens (map number_of (take l.candidate-index l.candidate-items)) l.found.bundles.items l.found.left.items;
  few : length l.found.bundles.items ≤ length l.text.tokens + 262144;
}
