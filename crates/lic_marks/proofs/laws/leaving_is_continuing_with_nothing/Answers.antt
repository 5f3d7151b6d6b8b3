use Rattle.lic_marks.proofs.Shifting.{can_leave_sound, can_leave_complete}
use Rattle.lic_marks.proofs.laws.leaving_is_continuing_with_nothing.Goals as goal

pub returns : goal.returns
returns c = λ r after entry m. (can_leave_sound r after entry m, can_leave_complete r after entry m)
