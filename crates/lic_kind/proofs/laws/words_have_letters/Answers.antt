use Rattle.lic_kind.proofs.LetterLemmas.{word_has_letters}
use Rattle.lic_kind.proofs.laws.words_have_letters.Goals as goal

pub returns : goal.returns
returns c = word_has_letters
