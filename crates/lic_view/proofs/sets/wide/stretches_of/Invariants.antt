-- The stretches of the spans so far.
use Rattle.std.proofs.Common.{take}
use Rattle.lic_view.proofs.StretchLemmas.{AreStretched}
use Rattle.lic_view.proofs.sets.wide.stretches_of.Given as goal

abbrev pub invariant-loop-span : goal.invariant-loop-span
invariant-loop-span l = AreStretched (take l.span-index l.spans) l.stretches.items
