-- What a pattern denotes: a set of words over letters and blanks.
use Rattle.std.specs.Prelude.{true}
use Rattle.lic_words.specs.Expressions as words
use Rattle.lic_words.specs.Expressions.{Expression}
use Rattle.lic_ere.specs.Sets.{is_in}
use Rattle.lic_ere.specs.Trees.{Tree, Trees, empty, char, any, set, cat, alt, repeat, no_tree, one_more}

abbrev mutual
  -- the words of a pattern
  pub tree_words : Tree → Expression
  tree_words empty = words.empty
  tree_words (char c) = words.letter c
  tree_words any = words.one (λ _. true)
  tree_words (set brackets) = words.one (is_in brackets)
  tree_words (cat ts) = sequence_words ts
  tree_words (alt ts) = choice_words ts
  tree_words (repeat t min max) = words.repeat min max (tree_words t)

  -- one after another
  pub sequence_words : Trees → Expression
  sequence_words no_tree = words.empty
  sequence_words (one_more t ts) = words.cat (tree_words t) (sequence_words ts)

  -- any one of them
  pub choice_words : Trees → Expression
  choice_words no_tree = words.none
  choice_words (one_more t ts) = words.alt (tree_words t) (choice_words ts)
