-- The tokens of a text, by its letters and their offsets.
use Rattle.std.specs.Prelude.{ℕ, List}

-- the letter of each byte of a text, and where its tokens begin and end
pub record TokenOffsets : Type 0 where
  pub letters : List ℕ
  pub starts : List ℕ
  pub ends : List ℕ
