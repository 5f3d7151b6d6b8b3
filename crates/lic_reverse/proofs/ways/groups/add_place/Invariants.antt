-- The place was added for each sequence of up to `l.counter` letters.
use Rattle.lic_reverse.proofs.LetterGroupLemmas.{AddsSequences}
use Rattle.lic_reverse.proofs.ways.groups.add_place.Given as goal

abbrev pub invariant-loop : goal.invariant-loop
invariant-loop l = AddsSequences l.view l.one l.place l.first l.hash l.counter l.fn.lists.items l.lists.items
