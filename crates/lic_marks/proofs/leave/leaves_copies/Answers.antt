use Rattle.std.proofs.Common.{false}
use Rattle.lic_marks.proofs.LetterSteps.{Leaves-copies}
use Rattle.lic_marks.proofs.RowSteps.{Leaves-empty}
use Rattle.lic_marks.proofs.leave.leaves_copies.Goals as goal

pub returns-then-count-eq0 : goal.returns-then-count-eq0
returns-then-count-eq0 c = λ passes.
    rw c.if-count-eq0.true (Leaves-empty c.args.after c.args.entry c.args.row.now c.args.at)

pub returns-else-count-eq0 : goal.returns-else-count-eq0
returns-else-count-eq0 c = λ passes.
    rw c.get.ensures (Leaves-copies c.args.count passes c.args.after c.args.entry c.args.row.now c.args.at false c.if-count-eq0.false c.requires)
