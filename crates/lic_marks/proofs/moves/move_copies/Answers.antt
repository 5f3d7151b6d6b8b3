use Rattle.std.proofs.Common.{arith}
use Rattle.lic_marks.proofs.Moving.{Moves-slid, Moves-cleared}
use Rattle.lic_marks.proofs.moves.move_copies.Goals as goal

pub overflow_add-end : goal.overflow_add-end
overflow_add-end c = omega (arith, c.requires, c.len-width.ensures)

pub returns-then-is_passed-clause-moves : goal.returns-then-is_passed-clause-moves
returns-then-is_passed-clause-moves c =
    Moves-slid c.args.entry c.args.row.now c.args.at c.args.count c.move_up.new.self c.move_up.ensures.kept c.args.is_passed c.if-is_passed.true
    c.move_up.ensures.first c.move_up.ensures.rest

pub returns-else-is_passed-clause-moves : goal.returns-else-is_passed-clause-moves
returns-else-is_passed-clause-moves c =
    Moves-cleared c.args.entry c.args.row.now c.args.at c.args.count c.clear.new.self c.clear.ensures.kept c.args.is_passed c.if-is_passed.false c.clear.ensures.inside
