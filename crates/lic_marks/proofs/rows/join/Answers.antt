use Rattle.lic_marks.proofs.JoinedRows.{marks_of-either, unset_fewer}
use Rattle.lic_marks.proofs.rows.join.Goals as goal

pub returns-clause-marks : goal.returns-clause-marks
returns-clause-marks c = λ r. marks_of-either r c.args.row.now c.args.other.now c.join.new.self c.join.ensures.either

pub returns-clause-grows : goal.returns-clause-grows
returns-clause-grows c = λ grew. unset_fewer c.args.row.now c.args.other.now c.join.new.self c.join.ensures.len c.join.ensures.either (c.join.ensures.grows grew)
