use Rattle.lic_marks.proofs.RowSteps.{Shifts-marks_of}
use Rattle.lic_marks.proofs.rows.step.Goals as goal

pub returns-clause-marks : goal.returns-clause-marks
returns-clause-marks c = Shifts-marks_of _ _ _ _ _ _ _ c.shift.ensures.shifts
