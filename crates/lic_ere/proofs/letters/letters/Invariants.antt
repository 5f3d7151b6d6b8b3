use Rattle.std.proofs.Common.{◌≡◌, map, take}
use Rattle.lic_ere.specs.Trees.{tree_of, char}
use Rattle.lic_ere.proofs.letters.letters.Given as goal

abbrev pub invariant-loop-letter : goal.invariant-loop-letter
invariant-loop-letter l = map tree_of l.units.items ≡ map char (take l.letter-index l.letter-items)
