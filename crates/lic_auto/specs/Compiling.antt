-- Compiled trees that denote a set of words.
use Rattle.std.specs.Prelude.{IsTrue, ◌≤◌, ℕ, Option, List, [], ◌∷◌}
use Rattle.lic_words.specs.Words.{Word, Power}
use Rattle.lic_words.specs.Expressions.{Expression, Language, IsAtMost}
use Rattle.lic_ere.specs.declared.ere.Ere.{Ere}
use Rattle.lic_ere.specs.Trees.{tree_of}
use Rattle.lic_ere.specs.Meaning.{tree_words}
use Rattle.lic_marks.specs.Cores.{WordsOf}
use Rattle.lic_marks.specs.Nodes.{core_of, is_measured}
use Rattle.lic_marks.specs.declared.node.Node.{Node}

-- two sets have the same words
pub record AreSame (P Q : Word → Type 0) : Type 0 where
  pub to : (w : Word) → P w → Q w
  pub from : (w : Word) → Q w → P w

-- the tree denotes these words, and its cached numbers are right
pub record HasWords (P : Word → Type 0) (node : Node) : Type 0 where
  pub words : AreSame (WordsOf (core_of node)) P
  pub measured : IsTrue (is_measured node)

-- each tree denotes the words of its expression
abbrev pub AllHaveWords : List Node → List Expression → Type 0
AllHaveWords [] [] = Unit {0}
AllHaveWords [] (e ∷ es) = ⊥
AllHaveWords (node ∷ nodes) [] = ⊥
AllHaveWords (node ∷ nodes) (e ∷ es) = HasWords (Language e) node × AllHaveWords nodes es

-- the words of a pattern
abbrev pub pattern_words : Ere → Expression
pattern_words ere = tree_words (tree_of ere)

-- from a least to a greatest number of words of the set in a row, or more
abbrev pub Repeats : (Word → Type 0) → ℕ → Option ℕ → Word → Type 0
Repeats P min max w = (k : ℕ) × (min ≤ k) × IsAtMost max k × Power P k w
