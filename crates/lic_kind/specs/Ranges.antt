-- Ranges of word characters, which are known without a table.
use Rattle.std.specs.Prelude.{ℕ, Bool, ◌||◌}
use Rattle.std.specs.Int.{is_in_range}

-- the character is of a range in which all are word characters
abbrev pub is_far_word : ℕ → Bool
is_far_word c = is_in_range 0x100 0x167F c || is_in_range 0x3001 0xFE57 c

-- the character is of a range of word characters without case
abbrev pub is_without_case : ℕ → Bool
is_without_case c = is_in_range 0x590 0x109F c || is_in_range 0x3001 0xA63F c || is_in_range 0xAC00 0xD7FF c
