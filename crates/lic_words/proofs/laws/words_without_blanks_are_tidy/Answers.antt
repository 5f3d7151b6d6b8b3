use Rattle.lic_words.proofs.Languages.{without_blanks_tidy}
use Rattle.lic_words.proofs.laws.words_without_blanks_are_tidy.Goals as goal

pub returns : goal.returns
returns c = λ a w h. (λ l. l.0, λ l. (l, without_blanks_tidy w h))
