use Rattle.std.proofs.Common.{◌≡◌, length}
use Rattle.lic_elements.specs.Pieces.{characters}
use Rattle.lic_elements.specs.Texts.{trim_end}
use Rattle.lic_elements.proofs.texts.trim_end.Given as goal

abbrev pub invariant-loop-last : goal.invariant-loop-last
invariant-loop-last l = trim_end (characters l.front) ≡ trim_end (characters l.text)

abbrev pub decreases-loop-last : goal.decreases-loop-last
decreases-loop-last l = length (characters l.front)
