use Rattle.lic_kind.proofs.LetterLemmas.{mark_letters, word_letters, word_letters_are_not_white}
use Rattle.lic_kind.proofs.laws.letters_keep_the_kind.Goals as goal

pub returns : goal.returns
returns c = record { mark = mark_letters; word = word_letters; no_blank = word_letters_are_not_white }
