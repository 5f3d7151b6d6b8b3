use Rattle.std.proofs.Common.{◌≡◌, ◌++◌, length}
use Rattle.std.specs.String.{string_bytes}
use Rattle.lic_elements.specs.Pieces.{characters}
use Rattle.lic_elements.specs.Texts.{text_of, unescaped}
use Rattle.lic_elements.proofs.texts.unescaped.Given as goal

abbrev pub invariant-loop-first : goal.invariant-loop-first
invariant-loop-first l = string_bytes l.text ++ text_of (unescaped (characters l.rest)) ≡ text_of (unescaped (characters l.escaped))

abbrev pub decreases-loop-first : goal.decreases-loop-first
decreases-loop-first l = length (characters l.rest)
