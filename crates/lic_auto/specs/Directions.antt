-- Sequences and expressions as they are read in a direction.
use Rattle.std.specs.Prelude.{List, reverse}
use Rattle.lic_words.specs.Expressions.{Expression}
use Rattle.lic_words.specs.Reversal.{reversed_expression}
use Rattle.lic_auto.specs.declared.direction.Direction.{Direction}
use Rattle.lic_auto.specs.declared.direction.Direction.TheVariants.{Forward, Backward}

-- a sequence, backward from its last item
abbrev pub ordered : {X : Type 0} → Direction → List X → List X
ordered Forward xs = xs
ordered Backward xs = reverse xs

-- the expression whose words are read so
abbrev pub read : Direction → Expression → Expression
read Forward e = e
read Backward e = reversed_expression e
