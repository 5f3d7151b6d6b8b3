-- What a matcher has read.
use Rattle.std.specs.Prelude.{◌≡◌, ℕ, List, [], ◌∷◌, drop}
use Rattle.lic_words.specs.Words.{blank}
use Rattle.lic_words.specs.Expressions.{Expression}
use Rattle.lic_words.specs.Describing.{IsDescribed}
use Rattle.lic_words.specs.Spelling.{Gap, gapped, last_of}
use Rattle.lic_marks.specs.Cores.{HasWordsOf}
use Rattle.lic_marks.specs.Nodes.{core_of}
use Rattle.lic_marks.specs.States.{HasTakenAny}
use Rattle.lic_marks.specs.declared.node.Node.{Node}
use Rattle.lic_marks.specs.declared.unanchored.UnanchoredMatcher.{UnanchoredMatcher}

-- the expression describes some end of the list
abbrev pub DescribesEnd : Expression → List (List ℕ) → Type 0
DescribesEnd e ts = (n : ℕ) × IsDescribed e (drop n ts)

-- the tree that a matcher is over
abbrev pub tree_of : UnanchoredMatcher → Node
tree_of s = s.tree

-- the letters of each end of the list that has a token
abbrev pub ends_of : List (List ℕ) → List (List (Gap × ℕ))
ends_of [] = []
ends_of (t ∷ ts) = gapped (t ∷ ts) ∷ ends_of ts

-- this is the last letter of each end that has a token
abbrev pub AllEndWith : ℕ → List (List ℕ) → Type 0
AllEndWith last [] = Unit {0}
AllEndWith last (t ∷ ts) = (last ≡ last_of blank (t ∷ ts)) × AllEndWith last ts

-- The matcher is one of the expression, and has read the tokens: its tree has the words of the expression, and its state
-- has read the letters of the ends of the list.
pub record HasReadEnds (s : UnanchoredMatcher) (e : Expression) (ts : List (List ℕ)) : Type 0 where
  pub words : HasWordsOf (core_of s.tree) e
  pub taken : HasTakenAny (core_of s.tree) s.state (ends_of ts)
  pub last : AllEndWith s.last ts
