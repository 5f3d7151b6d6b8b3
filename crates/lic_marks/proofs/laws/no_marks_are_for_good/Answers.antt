use Rattle.lic_marks.proofs.Representing.{never_spelled}
use Rattle.lic_marks.proofs.laws.no_marks_are_for_good.Goals as goal

pub returns : goal.returns
returns c = never_spelled
