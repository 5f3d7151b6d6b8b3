-- The letter of a pattern that is one.
use Rattle.std.proofs.Common.{sym, subst}
use Rattle.lic_ere.specs.Trees.{tree_of}
use Rattle.lic_ere.specs.Meaning.{tree_words}
use Rattle.lic_words.specs.Expressions.{Language}
use Rattle.lic_reverse.specs.LetterGroups.{EndIn}
use Rattle.lic_reverse.proofs.EndingLemmas.{letter-end}
use Rattle.lic_reverse.proofs.ways.endings.last_letters.Goals as goal

pub returns : goal.returns
returns c =
    subst (EndIn (Language (tree_words (tree_of c.args.ere.now)))) (sym c.mixed.ensures)
    (letter-end (tree_of c.args.ere.now) c.in_ok-letter.letter c.in_ok-letter.ensures.0 c.in_ok-letter.ensures.1)
