-- Where a literal ends in bytes. An offset is a number of bytes.
use Rattle.std.specs.Prelude.{◌≡◌, ℕ, ◌+◌, ◌≤◌, List, length, slice_range}

-- the bytes of the literal are up to offset e
pub record EndsAt (bytes literal : List ℕ) (e : ℕ) : Type 0 where
  pub start : ℕ
  pub end : e ≡ start + length literal
  pub within : e ≤ length bytes
  pub is : slice_range bytes start e ≡ literal
