use Rattle.std.proofs.Common.{sym, subst}
use Rattle.std.specs.Str.{chars}
use Rattle.lic_phrases.specs.Keys.{HaveNoBlank}
use Rattle.lic_phrases.proofs.PhraseBlanks.{phrase_has_no_blank}
use Rattle.lic_phrases.proofs.words.reader.WordsReader.read_phrase.Goals as goal

pub number_of-requires-clause-no_blank : goal.number_of-requires-clause-no_blank
number_of-requires-clause-no_blank c = subst HaveNoBlank (sym c.in_ok-phrase.ensures.texts) (phrase_has_no_blank (chars c.args.phrase.now))
