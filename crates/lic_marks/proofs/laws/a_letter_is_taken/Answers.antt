use Rattle.lic_marks.proofs.Shifting.{shift_sound, shift_complete}
use Rattle.lic_marks.proofs.laws.a_letter_is_taken.Goals as goal

pub returns : goal.returns
returns c = λ r after entry m x v. (shift_sound r after entry m x v, shift_complete r after entry m x v)
