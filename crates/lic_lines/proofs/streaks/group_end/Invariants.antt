use Rattle.std.proofs.Common.{◌≡◌, ℕ, ◌+◌, ◌-◌, ◌<◌, ◌≤◌, true, length, get_or}
use Rattle.lic_lines.specs.Cells.{Blank}
use Rattle.lic_lines.specs.Groupings.{together}
use Rattle.lic_lines.proofs.streaks.group_end.Given as goal

abbrev pub invariant-loop-end : goal.invariant-loop-end
invariant-loop-end l = record {
  after : l.from < l.end;
  within : l.end ≤ length l.cells;
  each : (i : ℕ) → l.from ≤ i → i + 1 < l.end → together l.grouping (get_or l.cells i Blank) (get_or l.cells (i + 1) Blank) ≡ true;
}

abbrev pub decreases-loop-end : goal.decreases-loop-end
decreases-loop-end l = length l.cells - l.end
