-- The places of the spans so far are in their groups.
use Rattle.lic_reverse.proofs.LetterGroupLemmas.{AreGroupsTo}
use Rattle.lic_reverse.proofs.ways.groups.Groups.of.Given as goal

abbrev pub invariant-loop-span : goal.invariant-loop-span
invariant-loop-span l = AreGroupsTo l.view l.spans l.span-index l.lists.items
