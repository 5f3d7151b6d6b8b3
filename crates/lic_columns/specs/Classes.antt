-- The class of a byte by tables of its halves: 0 for a word character, 1 or 2 for white space, more for a mark.
use Rattle.std.specs.Prelude.{ℕ, ◌/◌, bit_and, slice_index}
use Rattle.lic_columns.specs.declared.block.TheConstants.{LOW, HIGH}

abbrev pub class_by_low : ℕ → ℕ
class_by_low b = slice_index LOW (bit_and b 15)

abbrev pub class_by_high : ℕ → ℕ
class_by_high b = slice_index HIGH (b / 16)

abbrev pub class_of : ℕ → ℕ
class_of b = bit_and (class_by_low b) (class_by_high b)
