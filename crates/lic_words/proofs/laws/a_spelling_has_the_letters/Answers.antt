use Rattle.lic_words.proofs.Spellings.{Spells-letters}
use Rattle.lic_words.proofs.laws.a_spelling_has_the_letters.Goals as goal

pub returns : goal.returns
returns c = λ w ts s. Spells-letters w ts s
