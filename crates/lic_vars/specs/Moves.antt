-- A template as a sequence of moves.
use Rattle.std.specs.Prelude.{ℕ, List, [], ◌∷◌, ◌++◌, length, chars}
use Rattle.lic_words.specs.Words.{Word}
use Rattle.lic_words.specs.Expressions.{Expression}
use Rattle.lic_markup.specs.Parts.{Nodes, no_node, one_more}
use Rattle.lic_markup.specs.Parts as parts
use Rattle.lic_ere.specs.Meaning.{tree_words}

-- a text, a variable, and an optional part of a number of moves
pub data Move : Type 0 where
  text : Word → Move
  variable : List ℕ → Expression → Move
  optional : ℕ → Move

abbrev pub moves : Nodes → List Move
moves no_node = []
moves (one_more (parts.letters t) rest) = text (chars t) ∷ moves rest
moves (one_more (parts.variable name original pattern) rest) = variable name (tree_words pattern) ∷ moves rest
moves (one_more (parts.optional body) rest) = optional (length (moves body)) ∷ moves body ++ moves rest
