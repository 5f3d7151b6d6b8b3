use Rattle.lic_kind.proofs.LetterLemmas.{spell-Blank, spell-Dropped, spell-dash, spell-quote, spell-other_mark}
use Rattle.lic_kind.proofs.laws.letters_by_kind.Goals as goal

pub returns : goal.returns
returns c = record {
  blank = spell-Blank;
  dropped = spell-Dropped;
  dash = spell-dash;
  quote = spell-quote;
  other_mark = spell-other_mark;
}
