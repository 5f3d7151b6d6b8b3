-- Templates, apart from how they are read: what is round a piece of text in its lines, optional parts in one another, and what
-- all of it says.
use Rattle.std.specs.Prelude.{◌≡◌, ℕ, suc, ◌<◌, ◌≤◌, Bool, true, false, ◌||◌, ◌&&◌, ◌==◌, IsTrue, List, [], ◌∷◌, ◌++◌, length, map, reverse, if◌then◌else◌}
use Rattle.lic_ere.specs.Grammar.{IsPattern}
use Rattle.lic_ere.specs.Located.{Located, located}
use Rattle.lic_ere.specs.Trees.{Tree}
use Rattle.lic_kind.specs.LineRules.{LineRules}
use Rattle.lic_phrases.specs.Rewriting.{Phrase}
use Rattle.lic_pieces.specs.Pieces.{piece_of}
use Rattle.lic_pieces.specs.declared.pieces.Next.{Next}
use Rattle.lic_pieces.specs.declared.pieces.Next.TheVariants as next
use Rattle.lic_elements.specs.Signs.{new_line}
use Rattle.lic_elements.specs.Texts.{text_of}
use Rattle.lic_elements.specs.Rules as rules
use Rattle.lic_elements.specs.Elements.{Element, text, rule, refused}
use Rattle.lic_elements.specs.Cut.{AreElements}
use Rattle.lic_markup.specs.Lines.{is_space, ends_line}
use Rattle.lic_markup.specs.Parts as parts
use Rattle.lic_markup.specs.Parts.{Node, Reading, sequence, sequence_weight, sequence_has_token}
use Rattle.lic_markup.specs.Reading.{max_depth, max_length, max_weight}

-- ---- the original text

-- the template's text with the optional rules taken out and each variable replaced by its original value
abbrev pub original_of : List Element → List ℕ
original_of [] = []
original_of (text piece ∷ es) = text_of piece ++ original_of es
original_of (rule (rules.variable name original offset pattern) ∷ es) = original ++ original_of es
original_of (rule (rules.begin offset) ∷ es) = original_of es
original_of (rule (rules.finish offset) ∷ es) = original_of es
original_of (refused e ∷ es) = original_of es

-- ---- lines

-- what the lines of a template are made of: the characters of its pieces, and its rules, each as a whole
pub data Sign : Type 0 where
  character : ℕ → Sign
  optional_rule : Sign
  variable_rule : Sign

abbrev pub signs_in : Element → List Sign
signs_in (text piece) = map (λ x. character x.1) piece
signs_in (rule (rules.variable name original offset pattern)) = variable_rule ∷ []
signs_in (rule (rules.begin offset)) = optional_rule ∷ []
signs_in (rule (rules.finish offset)) = optional_rule ∷ []
signs_in (refused e) = []

abbrev pub signs_of : List Element → List Sign
signs_of [] = []
signs_of (e ∷ es) = signs_in e ++ signs_of es

-- white space, as which dropped characters count too, or an optional rule
abbrev pub is_blank : Sign → Bool
is_blank (character c) = is_space c
is_blank optional_rule = true
is_blank variable_rule = false

abbrev pub is_new_line : Sign → Bool
is_new_line (character c) = c == new_line
is_new_line optional_rule = false
is_new_line variable_rule = false

-- on the way along these signs only white space and optional rules are up to a U+000A, or to the end
abbrev pub is_clear : List Sign → Bool
is_clear [] = true
is_clear (s ∷ ss) = is_new_line s || (is_blank s && is_clear ss)

-- only white space and optional rules are between the start of the line and here, after these elements
abbrev pub opens_line : List Element → Bool
opens_line before = is_clear (reverse (signs_of before))

-- what a rule after a piece counts as, if the line continues there
abbrev pub first_rule : List Element → Next
first_rule (rule (rules.variable name original offset pattern) ∷ es) = next.Var
first_rule _ = next.Optional

-- what follows a piece in its last line: nothing where the piece ends that line, or where only white space and optional rules
-- follow in it
abbrev pub follows : List Located → List Element → Next
follows piece after = if ends_line piece || is_clear (signs_of after) then next.LineEnd else first_rule after

-- ---- parts

-- what an element says
pub data Item : Type 0 where
  letters : List ℕ → Item
  variable : List ℕ → List ℕ → Tree → Item
  begin : Item
  finish : Item

-- an element, after some and before some
pub data IsItem (line_rules : LineRules) (words : List Phrase) (before after : List Element) : Element → Item
    → Type 0 where
  is_piece : {cs : List Located}
      → IsItem line_rules words before after (text cs)
      (letters (piece_of line_rules words (opens_line before) (follows cs after) (text_of cs)))
  is_variable : {name original pattern : List ℕ} {offset : ℕ} {tree : Tree} → IsPattern pattern tree
      → IsItem line_rules words before after (rule (rules.variable name original offset pattern))
      (variable name original tree)
  is_begin : {offset : ℕ} → IsItem line_rules words before after (rule (rules.begin offset)) begin
  is_finish : {offset : ℕ} → IsItem line_rules words before after (rule (rules.finish offset)) finish

-- the elements after some
pub data AreItems (line_rules : LineRules) (words : List Phrase) : List Element → List Element → List Item
    → Type 0 where
  no_item : {before : List Element} → AreItems line_rules words before [] []
  one_item : {before after : List Element} {e : Element} {i : Item} {is : List Item}
      → IsItem line_rules words before after e i
      → AreItems line_rules words (before ++ e ∷ []) after is → AreItems line_rules words before (e ∷ after) (i ∷ is)

-- parts one after another, at a depth of optional parts; a piece without letters gives no part
pub data AreParts : ℕ → List Item → List Node → Type 0 where
  no_part : {depth : ℕ} → AreParts depth [] []
  no_letters : {depth : ℕ} {is : List Item} {ns : List Node} → AreParts depth is ns
      → AreParts depth (letters [] ∷ is) ns
  some_letters : {depth c : ℕ} {cs : List ℕ} {is : List Item} {ns : List Node} → AreParts depth is ns
      → AreParts depth (letters (c ∷ cs) ∷ is) (parts.letters (c ∷ cs) ∷ ns)
  replaceable : {depth : ℕ} {name original : List ℕ} {tree : Tree} {is : List Item} {ns : List Node}
      → AreParts depth is ns
      → AreParts depth (variable name original tree ∷ is) (parts.variable name original tree ∷ ns)
  optional : {depth : ℕ} {is js : List Item} {ns ms : List Node} → depth < max_depth → AreParts (suc depth) is ns
      → AreParts depth js ms
      → AreParts depth (begin ∷ (is ++ finish ∷ js)) (parts.optional (sequence ns) ∷ ms)

-- ---- templates

-- This is what a template, given as its bytes, says: its parts, its weight and its original text.
pub record IsTemplate (line_rules : LineRules) (words : List Phrase) (template : List ℕ) (says : Reading) : Type 0 where
  pub short : length template ≤ max_length
  pub elements : List Element
  pub cut : AreElements (located template) elements
  pub items : List Item
  pub read : AreItems line_rules words [] elements items
  pub nested : AreParts 0 items says.parts
  pub some_token : IsTrue (sequence_has_token (sequence says.parts))
  pub weight : says.weight ≡ sequence_weight (sequence says.parts)
  pub light : says.weight ≤ max_weight
  pub original : says.original ≡ original_of elements
