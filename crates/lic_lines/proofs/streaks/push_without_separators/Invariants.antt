use Rattle.std.proofs.Common.{◌≡◌, ◌-◌, ◌≤◌, ◌++◌, length, drop}
use Rattle.lic_lines.specs.Streaks.{without_separators}
use Rattle.lic_lines.proofs.streaks.push_without_separators.Given as goal

-- the cells so far, and those of what is left
abbrev pub invariant-loop-at : goal.invariant-loop-at
invariant-loop-at l = record {
  within : l.at ≤ length l.cells;
  stated : l.out.items ++ without_separators (drop l.at l.cells) ≡ l.fn.out.items ++ without_separators l.cells;
}

abbrev pub decreases-loop-at : goal.decreases-loop-at
decreases-loop-at l = length l.cells - l.at
