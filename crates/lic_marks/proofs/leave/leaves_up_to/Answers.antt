use Rattle.std.proofs.Common.{◌+◌, ◌||◌, ap, ◌∙◌}
use Rattle.lic_marks.proofs.LetterSteps.{Leaves-up_to}
use Rattle.lic_marks.proofs.ClearRows.{any_is}
use Rattle.lic_marks.proofs.leave.leaves_up_to.Goals as goal

pub returns : goal.returns
returns c = λ passes.
    let whole = Leaves-up_to c.args.count passes c.args.after c.args.entry c.args.row.now c.args.at c.requires in
    let same = any_is c.args.row.now c.args.at (c.args.at + c.args.count) c.is_any_set-is_marked.result c.requires c.is_any_set-is_marked.ensures in
    record { answer = ap (λ b. c.args.entry || b) same ∙ whole.answer }
