use Rattle.std.proofs.Common.{sym, subst, map}
use Rattle.lic_words.specs.Expressions.{Language, cat_all, letters}
use Rattle.lic_words.proofs.Languages.{texts_sound, texts_complete}
use Rattle.lic_words.proofs.laws.texts_denote_their_letters.Goals as goal

pub returns : goal.returns
returns c = λ texts w. (texts_sound texts w, λ e. subst (Language (cat_all (map letters texts))) (sym e) (texts_complete texts))
