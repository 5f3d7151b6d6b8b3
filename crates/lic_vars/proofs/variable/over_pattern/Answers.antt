-- Where the empty word is the only one, the places are those themselves.
use Rattle.lic_ere.specs.Trees.{tree_of}
use Rattle.lic_ere.specs.Meaning.{tree_words}
use Rattle.lic_reverse.proofs.EmptyWords.{alone-back}
use Rattle.lic_vars.proofs.variable.over_pattern.Goals as goal

pub returns-then-is_empty : goal.returns-then-is_empty
returns-then-is_empty c =
    alone-back _ c.args.view.now (tree_words (tree_of c.args.ere.now)) (c.requires.alone c.if-is_empty.true) c.args.spans.items c.requires.placed
