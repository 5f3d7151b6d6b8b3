use Rattle.lic_marks.proofs.Representing.{Represents-close}
use Rattle.lic_marks.proofs.laws.closed_marks_represent_what_follows_blanks.Goals as goal

pub returns : goal.returns
returns c = Represents-close
