-- The blanks at the edges of a text, and the letters between them.
use Rattle.std.specs.Prelude.{◌≡◌, ℕ, ◌<◌, Bool, IsTrue, List, ◌++◌, length}
use Rattle.std.specs.Str.{IsUtf8}
use Rattle.lic_words.specs.Words.{Word}
use Rattle.lic_phrases.specs.Spelling.{blank_if}
use Rattle.lic_phrases.specs.PieceTexts.{IsPieceText}
use Rattle.lic_places.specs.Places.{IsAfterBlank, is_blank_at}

-- letters in UTF-8 that begin with no blank and end with none, and within which blanks are between letters of words
pub record AreLetters (letters : List ℕ) : Type 0 where
  pub utf8 : IsUtf8 letters
  pub piece : IsPieceText letters
  pub some : 0 < length letters
  pub front : ¬ (IsTrue (is_blank_at letters 0))
  pub end : ¬ (IsAfterBlank letters (length letters))

-- such letters, or none
abbrev pub AreLettersIfAny : List ℕ → Type 0
AreLettersIfAny letters = 0 < length letters → AreLetters letters

-- the letters of a text with a blank before them and after them, or without
pub record AreEdges (text : List ℕ) (has_front : Bool) (letters : List ℕ) (has_end : Bool) : Type 0 where
  pub parts : text ≡ blank_if has_front ++ (letters ++ blank_if has_end)
  pub are : AreLettersIfAny letters
  pub utf8 : IsUtf8 letters

-- the word of one blank, or else the empty word
abbrev pub IsBlankIf : Bool → Word → Type 0
IsBlankIf has_blank w = w ≡ blank_if has_blank
