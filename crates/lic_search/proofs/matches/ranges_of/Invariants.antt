-- The ranges of the spans so far.
use Rattle.std.proofs.Common.{take}
use Rattle.lic_search.proofs.MatchLists.{AreRanges}
use Rattle.lic_search.proofs.matches.ranges_of.Given as goal

abbrev pub invariant-loop-span : goal.invariant-loop-span
invariant-loop-span l = AreRanges l.view l.spans (take l.span-index l.spans) l.found.items
