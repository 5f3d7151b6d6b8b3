-- Lists of flags, 64 in a column.
use Rattle.std.specs.Prelude.{ℕ, ◌/◌, ◌%◌, Bool, not, ◌&&◌, nat_le, nat_lt, List, map, length, slice_index}
use Rattle.std.specs.List.{range_with_len}
use Rattle.lic_columns.specs.Masks.{flag_at}
use Rattle.lic_trim.specs.PieceLengths.{has_bit}

-- the first n bits of a mask, as flags
unfoldable pub bits_of : ℕ → ℕ → List Bool
bits_of n mask = map (λ k. has_bit mask k) (range_with_len 0 n)

-- bit k of columns is bit k % 64 of column k / 64
abbrev pub has : List ℕ → ℕ → Bool
has columns k = has_bit (slice_index columns (k / 64)) (k % 64)

-- the first n bits of columns, as flags
abbrev pub flags_in : ℕ → List ℕ → List Bool
flags_in n columns = map (λ k. has columns k) (range_with_len 0 n)

-- the offset is in the range
abbrev pub is_within : ℕ → ℕ → ℕ → Bool
is_within from to k = nat_le from k && nat_lt k to

-- the flags without those of a range
abbrev pub cleared : ℕ → ℕ → List Bool → List Bool
cleared from to flags = map (λ k. flag_at flags k && not (is_within from to k)) (range_with_len 0 (length flags))
