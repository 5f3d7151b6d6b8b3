-- The matches of the templates so far.
use Rattle.std.proofs.Common.{map, take}
use Rattle.lic_set.specs.Candidates.{number_of}
use Rattle.lic_search.specs.LeastMatches.{HasLeastOf}
use Rattle.lic_search.proofs.tight.least_matches.Given as goal

abbrev pub invariant-loop-candidate : goal.invariant-loop-candidate
invariant-loop-candidate l = HasLeastOf l.set l.text.tokens (map number_of (take l.candidate-index l.candidate-items)) l.found.items
