use Rattle.lic_marks.proofs.Shifting.{can_leave-no_marks, shift-no_marks}
use Rattle.lic_marks.proofs.laws.no_marks_stay_none.Goals as goal

pub returns-clause-shift : goal.returns-clause-shift
returns-clause-shift c = shift-no_marks

pub returns-clause-leave : goal.returns-clause-leave
returns-clause-leave c = can_leave-no_marks
