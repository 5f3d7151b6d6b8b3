use Rattle.std.proofs.Common.{◌≡◌, length}
use Rattle.lic_markup.specs.Lines.{at_line_start}
use Rattle.lic_elements.specs.Pieces.{characters}
use Rattle.lic_markup.proofs.lines.at_line_start.Given as goal

-- only white space comes after the prefix, and no line ends there
abbrev pub invariant-loop-last : goal.invariant-loop-last
invariant-loop-last l = at_line_start l.so_far (characters l.front) ≡ at_line_start l.so_far (characters l.piece)

abbrev pub decreases-loop-last : goal.decreases-loop-last
decreases-loop-last l = length (characters l.front)
