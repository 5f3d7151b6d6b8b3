use Rattle.lic_marks.specs.Nodes.{passes}
use Rattle.lic_marks.proofs.Moving.{Shifts-copies}
use Rattle.lic_marks.proofs.shift.shift_copies.Goals as goal

pub returns-clause-shifts : goal.returns-clause-shifts
returns-clause-shifts c =
    Shifts-copies (passes c.args.test.now) c.args.count _ _ c.args.reading.letter _ _ _ _ c.requires c.move_copies.ensures.len
    (c.leaves_copies-out.ensures (passes c.args.test.now)) (rw c.passes-is_passed.ensures at c.move_copies.ensures.moves)
