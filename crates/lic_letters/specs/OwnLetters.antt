-- Letters beyond ASCII that stay as they are, by classes of their first two bytes.
use Rattle.std.specs.Prelude.{ℕ, ◌/◌, Bool, not, ◌&&◌, ◌==◌, nat_le, nat_lt, List, bit_and, slice_index}
use Rattle.lic_letters.specs.declared.wide.own.TheConstants.{TWO_FIRST_LOW, TWO_FIRST_HIGH, TWO_SECOND_LOW, TWO_SECOND_HIGH, THREE_FIRST_LOW, THREE_FIRST_HIGH, THREE_SECOND_LOW, THREE_SECOND_HIGH}

-- the classes of a byte: those that one table has for its low half, and another for its high half
abbrev pub class_in : List ℕ → List ℕ → ℕ → ℕ
class_in low high b = bit_and (slice_index low (bit_and b 15)) (slice_index high (b / 16))

-- some class is in both
abbrev pub are_common : ℕ → ℕ → Bool
are_common m n = not (bit_and m n == 0)

-- a letter of two bytes begins with these: they have a class in common
abbrev pub begins_two : ℕ → ℕ → Bool
begins_two a b = are_common (class_in TWO_FIRST_LOW TWO_FIRST_HIGH a) (class_in TWO_SECOND_LOW TWO_SECOND_HIGH b)

-- a letter of three bytes does
abbrev pub begins_three : ℕ → ℕ → Bool
begins_three a b = are_common (class_in THREE_FIRST_LOW THREE_FIRST_HIGH a) (class_in THREE_SECOND_LOW THREE_SECOND_HIGH b)

-- a character continues with this byte
abbrev pub continues : ℕ → Bool
continues b = nat_le 128 b && nat_lt b 192
