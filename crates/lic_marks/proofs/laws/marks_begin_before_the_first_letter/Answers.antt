use Rattle.lic_marks.proofs.Representing.{RepresentsAtOnce-begin}
use Rattle.lic_marks.proofs.laws.marks_begin_before_the_first_letter.Goals as goal

pub returns : goal.returns
returns c = RepresentsAtOnce-begin
