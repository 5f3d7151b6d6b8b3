use Rattle.std.proofs.Common.{◌≡◌, drop}
use Rattle.lic_lines.specs.Streaks.{end_after}
use Rattle.lic_lines.proofs.streaks.end_after.Given as goal

abbrev pub invariant-loop-cell : goal.invariant-loop-cell
invariant-loop-cell l = end_after l.end (drop l.cell-index l.cells) ≡ end_after l.fn.at l.cells
