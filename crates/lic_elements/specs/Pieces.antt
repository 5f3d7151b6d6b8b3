-- Pieces of a template's text.
use Rattle.std.specs.Prelude.{◌≡◌, ℕ, ◌+◌, ◌==◌, Bool, false, List, ◌∷◌, ◌++◌, length, chars}
use Rattle.std.specs.List.{list_any}
use Rattle.lic_ere.specs.Located.{Located, located_from}
use Rattle.lic_elements.specs.declared.piece.Piece.{Piece}
use Rattle.lic_elements.specs.Signs.{less}

-- the characters of a piece, each with its offset
abbrev pub characters : Piece → List Located
characters piece = located_from piece.offset (chars piece.text.now)

-- a piece ends with all of another
abbrev pub EndsWith : Piece → Piece → Type 0
EndsWith all rest = (front : List ℕ) × (all.text.now ≡ front ++ rest.text.now) × (rest.offset ≡ all.offset + length front)

-- one of these characters is a `<`
abbrev pub has_sign : List Located → Bool
has_sign cs = list_any (λ x. x.1 == less) cs

-- `here` begins with the first `<` of a piece, and `after` is what follows this
pub record IsNextSign (piece here after : Piece) : Type 0 where
  pub ends : EndsWith piece here
  pub ends_after : EndsWith piece after
  pub sign : characters here ≡ (here.offset, less) ∷ characters after
  pub front : List Located
  pub parts : characters piece ≡ front ++ characters here
  pub first : has_sign front ≡ false
