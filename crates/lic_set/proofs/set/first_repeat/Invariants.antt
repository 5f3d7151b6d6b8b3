use Rattle.std.proofs.Common.{◌≢◌}
use Rattle.std.specs.List.{AllAdjacentBelow}
use Rattle.std.specs.String.{string_bytes}
use Rattle.lic_set.proofs.set.first_repeat.Given as goal

abbrev pub invariant-loop-k : goal.invariant-loop-k
invariant-loop-k l = AllAdjacentBelow (λ a b. string_bytes a.0 ≢ string_bytes b.0) l.templates l.k
