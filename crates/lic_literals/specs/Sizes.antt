-- Sizes of windows and grams, in bytes.
use Rattle.std.specs.Prelude.{ℕ, ◌+◌, ◌<◌, ◌≤◌, List, slice_range}

-- the first `step` grams of a window lie within it
pub record AreSizes (length gram step : ℕ) : Type 0 where
  pub long : 4 ≤ gram
  pub some : 0 < step
  pub few : step ≤ 8
  pub fits : step + gram ≤ length + 1
  pub short : length ≤ 64

-- the gram of `size` bytes that begins at an offset
abbrev pub gram_at : ℕ → List ℕ → ℕ → List ℕ
gram_at size bytes offset = slice_range bytes offset (offset + size)
