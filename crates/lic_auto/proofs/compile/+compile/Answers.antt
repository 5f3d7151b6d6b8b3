use Rattle.std.proofs.Common.{map, take}
use Rattle.std.proofs.lemmas.List.{take_all}
use Rattle.lic_markup.specs.Meaning.{part_words}
use Rattle.lic_auto.specs.Directions.{read}
use Rattle.lic_auto.proofs.Trees.{AllHaveWords-measured, AllHaveWords-push, changed, compiled_parts, more_of}
use Rattle.lic_auto.proofs.compile.+compile.Goals as goal

pub compile-loop-part-preserved : goal.compile-loop-part-preserved
compile-loop-part-preserved t c =
    let d = c.args.direction in
    rw (c.in_ok-push.ensures.items, more_of (read d) part_words c.args.parts.now c.loop-part.part-index c.part-item.result c.loop-part-test.true c.part-item.is)
    (AllHaveWords-push c.loop-part.children.items
    (map (read d) (map part_words
    (take c.loop-part.part-index c.args.parts.now))) _ _ c.loop-part.invariant c.in_ok-compile_part.ensures)

pub compile-ordered_sequence-requires : goal.compile-ordered_sequence-requires
compile-ordered_sequence-requires t c = AllHaveWords-measured _ _ c.loop-part.invariant

pub compile-returns : goal.compile-returns
compile-returns t c =
    changed _ (compiled_parts c.args.direction _ _
    (rw (take_all c.loop-part.part-index c.args.parts.now c.loop-part-test.false) at c.loop-part.invariant)) c.ordered_sequence.ensures
