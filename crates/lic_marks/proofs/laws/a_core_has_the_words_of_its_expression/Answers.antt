use Rattle.lic_marks.proofs.Repetitions.{core_sound, core_complete}
use Rattle.lic_marks.proofs.laws.a_core_has_the_words_of_its_expression.Goals as goal

pub returns : goal.returns
returns c = λ e w. (core_sound e w, core_complete e w)
