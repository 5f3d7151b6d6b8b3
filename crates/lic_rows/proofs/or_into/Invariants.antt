use Rattle.std.proofs.Common.{length, ◌-◌}
use Rattle.std.specs.Prelude.{bit_or}
use Rattle.lic_rows.proofs.Steps.{Done}
use Rattle.lic_rows.proofs.or_into.Given as goal

abbrev pub invariant-lanes : goal.invariant-lanes
invariant-lanes l = Done bit_or l.fn.into l.from l.into l.at

abbrev pub decreases-lanes : goal.decreases-lanes
decreases-lanes l = length l.initial.into - l.at

abbrev pub invariant-rest : goal.invariant-rest
invariant-rest l = Done bit_or l.fn.into l.from l.into l.at

abbrev pub decreases-rest : goal.decreases-rest
decreases-rest l = length l.initial.into - l.at
