-- Those of the entries so far that have the hash.
use Rattle.lic_reverse.proofs.LetterGroupLemmas.{AreWith}
use Rattle.lic_reverse.proofs.ways.groups.spans_with.Given as goal

abbrev pub invariant-loop-entry : goal.invariant-loop-entry
invariant-loop-entry l = AreWith l.hash l.entries l.entry-index l.found.items
