use Rattle.lic_words.proofs.Reversal.{Language-reversed_expression, reversed_expression-Language}
use Rattle.lic_words.proofs.laws.words_are_read_from_the_end.Goals as goal

pub returns : goal.returns
returns c = λ e w. (reversed_expression-Language e w, Language-reversed_expression e w)
