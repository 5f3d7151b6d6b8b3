use Rattle.std.proofs.Common.{ℕ, ◌<◌}
use Rattle.lic_arguments.specs.Arguments.{IsNamed}
use Rattle.lic_arguments.proofs.arguments.number_of.Given as goal

-- none of the numbers so far has the identifier
abbrev pub invariant-loop-k : goal.invariant-loop-k
invariant-loop-k l = (j : ℕ) → j < l.k → ¬ (IsNamed l.set l.id j)
