use Rattle.std.proofs.Common.{arith}
use Rattle.lic_marks.proofs.LetterSteps.{weight-letters}
use Rattle.lic_marks.proofs.Moving.{Shifts-letters}
use Rattle.lic_marks.proofs.shift.shift_letters.Goals as goal

pub move_letters-requires : goal.move_letters-requires
move_letters-requires c = omega (arith, c.requires, weight-letters c.args.text.now)

pub returns-clause-shifts : goal.returns-clause-shifts
returns-clause-shifts c =
    Shifts-letters c.args.text.now _ _ _ _ _ _ _ (omega (arith, c.requires, weight-letters c.args.text.now)) c.move_letters.ensures.len
    c.leaves_letters-out.ensures c.move_letters.ensures.moves
