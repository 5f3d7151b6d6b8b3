-- The parts of a template, without where they lie in memory.
use Rattle.std.specs.Prelude.{ℕ, ◌+◌, ◌==◌, ◌||◌, not, Bool, false, IsTrue, List, [], ◌∷◌, length, map, chars}
use Rattle.std.specs.List.{list_any}
use Rattle.std.specs.String.{string_bytes}
use Rattle.lic_ere.specs.Trees.{Tree, tree_of}
use Rattle.lic_markup.specs.declared.part.Part.{Part}
use Rattle.lic_markup.specs.declared.part.Part.TheOpen.{Part-F}
use Rattle.lic_markup.specs.declared.part.Part.TheFolds.{fold-Part}
use Rattle.lic_elements.specs.Signs.{blank}
use Rattle.lic_markup.specs.Weights.{weight}

mutual
  pub data Node : Type 0 where
    -- the letters of a text, as UTF-8 bytes
    letters : List ℕ → Node
    -- a variable: its name, its original value, both as UTF-8 bytes, and its pattern
    variable : List ℕ → List ℕ → Tree → Node
    optional : Nodes → Node

  pub data Nodes : Type 0 where
    no_node : Nodes
    one_more : Node → Nodes → Nodes

-- nodes in a row
abbrev pub sequence : List Node → Nodes
sequence [] = no_node
sequence (n ∷ ns) = one_more n (sequence ns)

-- one part, with the node of each part inside it in its place
abbrev pub part_node : Part-F Node → Node
part_node (Part-F.Text text) = letters (string_bytes text)
part_node (Part-F.Var name original ere) = variable (string_bytes name) (string_bytes original) (tree_of ere)
part_node (Part-F.Optional parts) = optional (sequence parts.items)

abbrev pub part_of : Part → Node
part_of = fold-Part Node part_node

abbrev mutual
  -- A text weighs the number of its letters, blanks included.
  pub node_weight : Node → ℕ
  node_weight (letters text) = length (chars text)
  node_weight (variable name original pattern) = weight pattern
  node_weight (optional ns) = sequence_weight ns

  pub sequence_weight : Nodes → ℕ
  sequence_weight no_node = 0
  sequence_weight (one_more n ns) = node_weight n + sequence_weight ns

-- some letter is no blank
abbrev pub gives_token : List ℕ → Bool
gives_token text = list_any (λ c. not (c == blank)) (chars text)

abbrev mutual
  -- some text has a letter that is no blank
  pub has_token : Node → Bool
  has_token (letters text) = gives_token text
  has_token (variable name original pattern) = false
  has_token (optional ns) = sequence_has_token ns

  pub sequence_has_token : Nodes → Bool
  sequence_has_token no_node = false
  sequence_has_token (one_more n ns) = has_token n || sequence_has_token ns

-- what parts weigh together
abbrev pub weight_of : List Part → ℕ
weight_of parts = sequence_weight (sequence (map part_of parts))

-- some text of the parts has a letter that is no blank
abbrev pub GiveToken : List Part → Type 0
GiveToken parts = IsTrue (sequence_has_token (sequence (map part_of parts)))

-- what a template is to its callers: its parts, its weight, and its original text as UTF-8 bytes
pub record TemplateValue : Type 0 where
  pub parts : List Part
  pub weight : ℕ
  pub original : List ℕ

-- a template without where its parts lie in memory
pub record Reading : Type 0 where
  pub parts : List Node
  pub weight : ℕ
  pub original : List ℕ

abbrev pub template_of : TemplateValue → Reading
template_of t = record { parts = map part_of t.parts; weight = t.weight; original = t.original }
