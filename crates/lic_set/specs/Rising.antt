-- Lists of numbers in rising order.
use Rattle.std.specs.Prelude.{ℕ, ◌+◌, ◌<◌, List, length, slice_index}

-- each number is greater than the one before, and all are below n
pub record IsRising (numbers : List ℕ) (n : ℕ) : Type 0 where
  pub order : (i : ℕ) → i + 1 < length numbers → slice_index numbers i < slice_index numbers (i + 1)
  pub below : (i : ℕ) → i < length numbers → slice_index numbers i < n
