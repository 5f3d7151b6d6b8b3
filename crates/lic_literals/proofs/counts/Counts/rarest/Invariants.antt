-- A window begins at the offset that was picked.
use Rattle.std.proofs.Common.{◌+◌, ◌≤◌, length}
use Rattle.lic_literals.proofs.counts.Counts.rarest.Given as goal

abbrev pub invariant-loop-offset : goal.invariant-loop-offset
invariant-loop-offset l = l.rarest + l.size ≤ length l.literal
