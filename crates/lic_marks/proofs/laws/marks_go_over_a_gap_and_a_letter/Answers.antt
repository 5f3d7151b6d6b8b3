use Rattle.lic_marks.proofs.Representing.{Represents-letter}
use Rattle.lic_marks.proofs.laws.marks_go_over_a_gap_and_a_letter.Goals as goal

pub returns : goal.returns
returns c = λ r entry at_once after_blanks letters gap x s letter. Represents-letter r entry at_once after_blanks letters s gap x letter
