use Rattle.std.proofs.Common.{sym, subst}
use Rattle.lic_words.specs.Expressions.{Language, letters}
use Rattle.lic_words.proofs.Languages.{letters_sound, letters_complete}
use Rattle.lic_words.proofs.laws.letters_denote_themselves.Goals as goal

pub returns : goal.returns
returns c = λ text w. (letters_sound text w, λ e. subst (Language (letters text)) (sym e) (letters_complete text))
