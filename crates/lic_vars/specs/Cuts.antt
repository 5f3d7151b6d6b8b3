-- What the code's instructions and cuts represent.
use Rattle.std.specs.Prelude.{◌≡◌, ℕ, ◌+◌, ◌-◌, ◌&&◌, ◌↔◌, Bool, true, false, List, ◌∷◌, ◌++◌, drop, map, length, chars, if◌then◌else◌}
use Rattle.lic_words.specs.Words.{Word, blank}
use Rattle.lic_phrases.specs.PieceTexts.{IsPieceText}
use Rattle.lic_norm.specs.Tokens.{TokenValue}
use Rattle.lic_ere.specs.Trees.{tree_of}
use Rattle.lic_ere.specs.Meaning.{tree_words}
use Rattle.lic_places.specs.Places.{OverBlank, is_blank_at, spelling_of}
use Rattle.lic_places.specs.Reads.{Reads}
use Rattle.lic_spans.specs.declared.span.PlaceSpan.{PlaceSpan}
use Rattle.lic_reverse.specs.EmptyWord.{HasEmptyWordAlone}
use Rattle.lic_view.specs.PlaceSets.{ArePlaced, Reaches}
use Rattle.lic_vars.specs.Moves.{Move, text, variable, optional}
use Rattle.lic_vars.specs.Making.{CanMake}
use Rattle.lic_vars.specs.declared.cut.Cut.{Cut}
use Rattle.lic_vars.specs.declared.instructions.Instruction.{Instruction}

abbrev pub move_of : Instruction → Move
move_of (Instruction.Text letters) = text (chars letters.now)
move_of (Instruction.Variable name ere is_empty) = variable name.now (tree_words (tree_of ere.now))
move_of (Instruction.Optional n) = optional n

abbrev pub moves_of : List Instruction → List Move
moves_of = map move_of

-- the moves of the last `k` instructions
abbrev pub last_moves : List Instruction → ℕ → List Move
last_moves instructions k = moves_of (drop (length instructions - k) instructions)

-- a text is one that pieces have, and a pattern has the empty word alone where that is said
abbrev pub IsPiece : Instruction → Type 0
IsPiece (Instruction.Text letters) = IsPieceText letters.now
IsPiece (Instruction.Variable name ere is_empty) = is_empty ≡ true → HasEmptyWordAlone (tree_words (tree_of ere.now))
IsPiece (Instruction.Optional n) = Unit {0}

-- no value comes of the instruction
abbrev pub HasNoValue : Instruction → Type 0
HasNoValue (Instruction.Text letters) = Unit {0}
HasNoValue (Instruction.Variable name ere is_empty) = ⊥
HasNoValue (Instruction.Optional n) = Unit {0}

-- the word, and the blank that was written before it
abbrev pub lead : Bool → Word → Word
lead true w = blank ∷ w
lead false w = w

-- the word spells what is from a cut up to a place
abbrev pub ReadsFrom : List TokenValue → Cut → Word → ℕ → Type 0
ReadsFrom tokens cut w q = Reads tokens cut.place (lead cut.is_apart w) q

-- the word spells all that comes after a cut
abbrev pub ReadsOn : List TokenValue → Cut → Word → Type 0
ReadsOn tokens cut w = ReadsFrom tokens cut w (length (spelling_of tokens))

-- the cut before the first token
abbrev pub start : Cut
start = record { place = 0; is_apart = false }

-- where a letter begins that comes next
abbrev pub letter_place : List TokenValue → Cut → ℕ
letter_place tokens cut = if cut.is_apart && is_blank_at (spelling_of tokens) cut.place then cut.place + 1 else cut.place

-- blanks may be at a cut after which they were written
abbrev pub IsOpen : List TokenValue → Cut → Type 0
IsOpen tokens cut = cut.is_apart ≡ true → OverBlank tokens cut.place cut.place

-- after the first cut the word spells what the rest of it spells after the second
abbrev pub LeadsTo : List TokenValue → Cut → Word → Cut → Type 0
LeadsTo tokens cut u next = (w : Word) → ReadsOn tokens cut (u ++ w) ↔ ReadsOn tokens next w

-- the spans have the places from which the moves lead to the end of the tokens, and no other
pub record AreFinishing (tokens : List TokenValue) (ms : List Move) (spans : List PlaceSpan) : Type 0 where
  pub placed : ArePlaced tokens spans
  pub exact : (p : ℕ) → ((last : ℕ) × Reaches tokens spans p last) ↔ CanMake ms (λ w. Reads tokens p w (length (spelling_of tokens)))
