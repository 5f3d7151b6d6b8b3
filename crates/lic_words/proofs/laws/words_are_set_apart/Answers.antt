use Rattle.lic_words.proofs.Tokens.{Spells-apart}
use Rattle.lic_words.proofs.laws.words_are_set_apart.Goals as goal

pub returns : goal.returns
returns c = λ t u a b w h k i j. Spells-apart t u a b w h k i j
