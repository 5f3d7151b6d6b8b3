-- What was found leads to the places of the spans so far.
use Rattle.std.proofs.Common.{None, take}
use Rattle.lic_view.specs.Backward.{IsBack}
use Rattle.lic_reverse.proofs.CountWords.{Counted}
use Rattle.lic_reverse.proofs.letters.counts.any_before.Given as goal

abbrev pub invariant-loop-span : goal.invariant-loop-span
invariant-loop-span l = IsBack l.keep l.view (Counted 1 None) (take l.span-index l.spans) l.found.items
