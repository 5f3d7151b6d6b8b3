use Rattle.std.proofs.Common.{◌-◌, ◌≤◌, length}
use Rattle.lic_norm.proofs.reader.lines.ascii_prefix.Given as goal

abbrev pub invariant-loop-front : goal.invariant-loop-front
invariant-loop-front l = l.front ≤ length l.bytes

abbrev pub decreases-loop-front : goal.decreases-loop-front
decreases-loop-front l = length l.bytes - l.front
