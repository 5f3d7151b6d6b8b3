use Rattle.std.proofs.Common.{map, take}
use Rattle.lic_markup.specs.Meaning.{part_words}
use Rattle.lic_auto.specs.Compiling.{AllHaveWords}
use Rattle.lic_auto.specs.Directions.{read}
use Rattle.lic_auto.proofs.compile.+compile.Given as goal

-- the parts so far are compiled
abbrev pub invariant-compile-loop-part : goal.invariant-compile-loop-part
invariant-compile-loop-part l = AllHaveWords l.children.items (map (read l.direction) (map part_words (take l.part-index l.parts)))
