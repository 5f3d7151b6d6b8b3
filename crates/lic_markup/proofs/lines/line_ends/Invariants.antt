use Rattle.std.proofs.Common.{◌≡◌, length}
use Rattle.lic_markup.specs.Lines.{line_ends}
use Rattle.lic_elements.specs.Pieces.{characters}
use Rattle.lic_markup.proofs.lines.line_ends.Given as goal

abbrev pub invariant-loop-first : goal.invariant-loop-first
invariant-loop-first l = line_ends l.following (characters l.rest) ≡ line_ends l.following (characters l.piece)

abbrev pub decreases-loop-first : goal.decreases-loop-first
decreases-loop-first l = length (characters l.rest)
