-- Rows of bits.
use Rattle.std.specs.Prelude.{◌≡◌, ℕ, ◌/◌, ◌%◌, ◌<◌, ◌≤◌, Bool, false, ◌==◌, List, map, get_or, slice_index}
use Rattle.std.specs.Int.{bit_at}
use Rattle.std.specs.List.{range_with_len}

-- bit number b of a row is bit b % 64 of word b / 64
abbrev pub has : List ℕ → ℕ → Bool
has row b = bit_at (slice_index row (b / 64)) (b % 64) == 1

-- the first n bits of a row of words, as a list of flags
abbrev pub flags : ℕ → List ℕ → List Bool
flags n words = map (λ b. has words b) (range_with_len 0 n)

-- whether that flag of a list is set: past its end none is
abbrev pub flag_at : List Bool → ℕ → Bool
flag_at flags k = get_or flags k false

-- outside of a range the bits are as they were
pub record IsKeptOutside (from to : ℕ) (old new : ℕ → Bool) : Type 0 where
  pub before : (k : ℕ) → k < from → new k ≡ old k
  pub past : (k : ℕ) → to ≤ k → new k ≡ old k
