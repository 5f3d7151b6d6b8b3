-- The numbers within the bounds of the spans so far.
use Rattle.std.proofs.Common.{take}
use Rattle.lic_vars.specs.Shortest.{AreWithin}
use Rattle.lic_vars.proofs.variable.numbers_within.Given as goal

abbrev pub invariant-loop-span : goal.invariant-loop-span
invariant-loop-span l = AreWithin (take l.span-index l.spans) l.low l.high l.within.items
