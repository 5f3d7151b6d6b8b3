-- The ends of the tokens so far.
use Rattle.lic_search.proofs.MatchLists.{AreEnds}
use Rattle.lic_search.proofs.matches.token_ends.Given as goal

abbrev pub invariant-loop-last : goal.invariant-loop-last
invariant-loop-last l = AreEnds l.view l.last l.ends.items
