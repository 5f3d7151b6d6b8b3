-- Letters of a text by their places.
use Rattle.std.specs.Prelude.{ℕ, List}
use Rattle.std.specs.Char.{IsScalar, encode_utf8}
use Rattle.lic_places.specs.Places.{Occurs}

-- this letter comes before a place, from another on
pub record IsLetterBefore (bytes : List ℕ) (place start letter : ℕ) : Type 0 where
  pub scalar : IsScalar letter
  pub occurs : Occurs bytes start (encode_utf8 letter) place
