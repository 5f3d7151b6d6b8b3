-- No instruction so far is a variable.
use Rattle.std.proofs.Common.{take}
use Rattle.std.specs.List.{All}
use Rattle.lic_vars.specs.Cuts.{HasNoValue}
use Rattle.lic_vars.proofs.values.has_variable.Given as goal

abbrev pub invariant-loop-instruction : goal.invariant-loop-instruction
invariant-loop-instruction l = All HasNoValue (take l.instruction-index l.instructions)
