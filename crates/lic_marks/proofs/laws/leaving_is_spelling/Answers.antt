use Rattle.lic_marks.proofs.Representing.{accept_sound, accept_complete}
use Rattle.lic_marks.proofs.laws.leaving_is_spelling.Goals as goal

pub returns : goal.returns
returns c = λ r entry at_once after_blanks letters s. (
  accept_sound r entry at_once after_blanks letters s,
  λ h. accept_complete r entry at_once after_blanks letters s h.0 h.1 h.2,
)
