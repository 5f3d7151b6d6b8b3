use Rattle.std.proofs.Common.{◌==◌, not, sym, ap, ◌∙◌, subst}
use Rattle.std.specs.List.{filter}
use Rattle.std.specs.Str.{chars}
use Rattle.std.specs.String.{string_bytes}
use Rattle.lic_words.specs.Words.{blank}
use Rattle.lic_words.specs.Expressions.{Language}
use Rattle.lic_words.proofs.Languages.{letters_sound}
use Rattle.lic_words.proofs.Spellings.{Spells-letters}
use Rattle.lic_markup.proofs.MeaningLemmas.{part_words-Text}
use Rattle.lic_markup.proofs.laws.a_text_describes_its_letters_alone.Goals as goal

pub returns : goal.returns
returns c = λ text ts (some, w, within, spells).
    let is = letters_sound (chars (string_bytes text)) w (subst (λ e. Language e w) (part_words-Text text) within) in
    ap (filter (λ c. not (c == blank))) (sym is) ∙ Spells-letters w ts spells
