use Rattle.lic_words.proofs.Spellings.{Spells-past}
use Rattle.lic_words.proofs.laws.a_blank_after_is_free.Goals as goal

pub returns : goal.returns
returns c = λ w ts. Spells-past w ts
