-- Texts of a template that are in whatever it describes, and where they end in bytes.
use Rattle.std.specs.Prelude.{◌≡◌, ℕ, ◌<◌, ◌≤◌, Bool, List, length, map, Contains, Some, slice_get}
use Rattle.lic_markup.specs.declared.part.Part.{Part}
use Rattle.lic_markup.specs.Parts as nodes
use Rattle.lic_markup.specs.Parts.{part_of}
use Rattle.lic_literals.specs.Ends.{EndsAt}
use Rattle.lic_places.specs.Texts.{AreEdges}

-- the part of this number is a text with these letters between the blanks at its edges, of which there is one at least
pub record HasLetters (parts : List Part) (number : ℕ) (letters : List ℕ) : Type 0 where
  pub text : List ℕ
  pub part : slice_get (map part_of parts) number ≡ Some (nodes.letters text)
  pub has_front : Bool
  pub has_end : Bool
  pub edges : AreEdges text has_front letters has_end
  pub some : 0 < length letters

-- no text of the template has letters
abbrev pub HasNoLetters : List Part → Type 0
HasNoLetters parts = (number : ℕ) (letters : List ℕ) → ¬ (HasLetters parts number letters)

-- a text with these letters: no text of the template has more, and none before it as many
pub record IsLongestText (parts : List Part) (number : ℕ) (letters : List ℕ) : Type 0 where
  pub has : HasLetters parts number letters
  pub longest : (n : ℕ) (l : List ℕ) → HasLetters parts n l → length l ≤ length letters
  pub first : (n : ℕ) (l : List ℕ) → HasLetters parts n l → n < number → length l < length letters

-- the part of this number is a text, and each place at which its letters end is among the places
pub record HoldEnds (bytes : List ℕ) (parts : List Part) (number : ℕ) (places : List ℕ) : Type 0 where
  pub letters : List ℕ
  pub text : HasLetters parts number letters
  pub all : (e : ℕ) → EndsAt bytes letters e → Contains places e
