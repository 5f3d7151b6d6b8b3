use Rattle.std.proofs.Common.{◌≡◌, ◌++◌, map, take}
use Rattle.lic_lines.specs.Cells.{cell_of}
use Rattle.lic_lines.proofs.line.push_cells.Given as goal

abbrev pub invariant-loop-s : goal.invariant-loop-s
invariant-loop-s l = l.cells.items ≡ l.fn.cells.items ++ map cell_of (take l.s-index l.text)
