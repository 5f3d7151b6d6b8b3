use Rattle.lic_words.proofs.Languages.{optional_sound, optional_complete}
use Rattle.lic_words.proofs.laws.optional_twice_is_optional.Goals as goal

pub returns : goal.returns
returns c = λ a w. (optional_sound a w, optional_complete a w)
