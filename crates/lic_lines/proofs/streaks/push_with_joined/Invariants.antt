use Rattle.std.proofs.Common.{◌≡◌, ◌-◌, ◌≤◌, ◌++◌, length, drop}
use Rattle.lic_lines.specs.Streaks.{with_joined}
use Rattle.lic_lines.proofs.streaks.push_with_joined.Given as goal

-- the cells so far, and those of what is left
abbrev pub invariant-loop-at : goal.invariant-loop-at
invariant-loop-at l = record {
  within : l.at ≤ length l.cells;
  stated : l.out.items ++ with_joined (drop l.at l.cells) ≡ l.fn.out.items ++ with_joined l.cells;
}

abbrev pub decreases-loop-at : goal.decreases-loop-at
decreases-loop-at l = length l.cells - l.at
