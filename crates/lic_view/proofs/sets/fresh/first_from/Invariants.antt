use Rattle.std.proofs.Common.{◌≤◌, ◌-◌, length}
use Rattle.lic_view.proofs.sets.fresh.first_from.Given as goal

abbrev pub invariant-loop-first : goal.invariant-loop-first
invariant-loop-first l = record {
  from : l.from ≤ l.first;
  within : l.first ≤ length l.spans;
}

-- the spans from there on
abbrev pub decreases-loop-first : goal.decreases-loop-first
decreases-loop-first l = length l.spans - l.first
