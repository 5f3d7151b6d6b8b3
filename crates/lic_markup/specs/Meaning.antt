-- What a template denotes: a set of words over letters and blanks.
use Rattle.std.specs.Prelude.{ℕ, Bool, List, map, chars}
use Rattle.lic_kind.specs.LineRules.{LineRules}
use Rattle.lic_phrases.specs.Rewriting.{Phrase, rewritten}
use Rattle.lic_pieces.specs.Pieces.{piece_tokens}
use Rattle.lic_pieces.specs.declared.pieces.Next.{Next}
use Rattle.lic_words.specs.Expressions as words
use Rattle.lic_words.specs.Expressions.{Expression}
use Rattle.lic_ere.specs.Meaning.{tree_words}
use Rattle.lic_markup.specs.declared.part.Part.{Part}
use Rattle.lic_markup.specs.Parts as parts
use Rattle.lic_markup.specs.Parts.{Node, Nodes, part_of}

abbrev mutual
  -- a text has its letters alone, a variable the tidy words of its pattern, an optional part the empty word and
  -- its body's words
  pub node_words : Node → Expression
  node_words (parts.letters text) = words.letters (chars text)
  node_words (parts.variable name original pattern) = words.tidy (tree_words pattern)
  node_words (parts.optional ns) = words.alt words.empty (nodes_words ns)

  -- one after another
  pub nodes_words : Nodes → Expression
  nodes_words parts.no_node = words.empty
  nodes_words (parts.one_more n ns) = words.cat (node_words n) (nodes_words ns)

-- the words of parts in a row
abbrev pub parts_words : List Node → Expression
parts_words ns = nodes_words (parts.sequence ns)

-- the words of a part
abbrev pub part_words : Part → Expression
part_words part = node_words (part_of part)

-- the texts of the tokens that are read from a piece of a template's text
abbrev pub piece_texts : LineRules → List Phrase → Bool → Next → List ℕ → List (List ℕ)
piece_texts rules words at_line_start before piece =
    map (λ t. t.text) (rewritten words (piece_tokens rules at_line_start before piece))
