-- The answer for the numbers so far.
use Rattle.std.proofs.Common.{take}
use Rattle.lic_literals.proofs.KeysLemmas.{IsAnswer}
use Rattle.lic_literals.proofs.prefilter.Prefilter.kept.Given as goal

abbrev pub invariant-loop-number : goal.invariant-loop-number
invariant-loop-number l = IsAnswer l.fn.self l.bytes (take l.number-index l.number-items) l.kept.items
