use Rattle.lic_marks.proofs.Representing.{RepresentsAtOnce-letter}
use Rattle.lic_marks.proofs.laws.marks_go_over_a_letter.Goals as goal

pub returns : goal.returns
returns c = λ r entry at_once letters x s letter. RepresentsAtOnce-letter r entry at_once letters s x letter
