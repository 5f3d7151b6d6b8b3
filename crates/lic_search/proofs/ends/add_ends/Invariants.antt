-- The ends of the tokens so far were added.
use Rattle.lic_search.specs.Ends.{AddsEnds}
use Rattle.lic_search.proofs.ends.add_ends.Given as goal

abbrev pub invariant-loop-token : goal.invariant-loop-token
invariant-loop-token l = AddsEnds l.view l.first l.token l.initial.ends.items l.ends.items
