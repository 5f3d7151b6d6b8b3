-- What a run has read.
use Rattle.std.specs.Prelude.{◌≡◌, ℕ, List, [], IsTrue, ◌↔◌}
use Rattle.lic_words.specs.Words.{blank}
use Rattle.lic_words.specs.Expressions.{Expression}
use Rattle.lic_words.specs.Spelling.{gapped, last_of}
use Rattle.lic_marks.specs.Cores.{HasWordsOf}
use Rattle.lic_marks.specs.Nodes.{core_of}
use Rattle.lic_marks.specs.States.{HasTaken}
use Rattle.lic_marks.specs.declared.node.Node.{Node}
use Rattle.lic_marks.specs.declared.anchored.AnchoredMatcher.{AnchoredMatcher}

-- the tree that a run is over
abbrev pub tree_of : AnchoredMatcher → Node
tree_of run = run.tree

-- The run is one of the expression, and has read the tokens: its tree has the words of the expression, and its state has
-- read the letters of the tokens.
pub record HasRead (run : AnchoredMatcher) (e : Expression) (ts : List (List ℕ)) : Type 0 where
  pub words : HasWordsOf (core_of run.tree) e
  pub empty : IsTrue run.is_empty ↔ (ts ≡ [])
  pub last : run.last ≡ last_of blank ts
  pub taken : HasTaken (core_of run.tree) run.state (gapped ts)
