use Rattle.std.proofs.Common.{◌≡◌, length}
use Rattle.lic_elements.specs.Pieces.{characters}
use Rattle.lic_elements.specs.Texts.{trim_start}
use Rattle.lic_elements.proofs.texts.trim_start.Given as goal

abbrev pub invariant-loop-first : goal.invariant-loop-first
invariant-loop-first l = trim_start (characters l.rest) ≡ trim_start (characters l.text)

abbrev pub decreases-loop-first : goal.decreases-loop-first
decreases-loop-first l = length (characters l.rest)
