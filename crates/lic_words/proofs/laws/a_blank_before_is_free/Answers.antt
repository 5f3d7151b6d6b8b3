use Rattle.lic_words.proofs.Spellings.{Spells-before}
use Rattle.lic_words.proofs.laws.a_blank_before_is_free.Goals as goal

pub returns : goal.returns
returns c = λ w ts. Spells-before w ts
