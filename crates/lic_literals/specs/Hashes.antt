-- Hashes of grams, and the flags that they give.
use Rattle.std.specs.Prelude.{ℕ, ◌+◌, ◌*◌, ◌/◌, ◌%◌, ◌^◌, List, take, length, nat_lt, if◌then◌else◌}
use Rattle.std.specs.Int.{w32, w64, from_le_bytes}

-- the first eight bytes of a gram as a number, or the first four where it has fewer
abbrev pub word_of : List ℕ → ℕ
word_of gram = if nat_lt (length gram) 8 then from_le_bytes w32 (take 4 gram) else from_le_bytes w64 (take 8 gram)

-- that number, times an odd number
unfoldable pub hash_of : List ℕ → ℕ
hash_of gram = word_of gram * 0x9E3779B97F4A7C15 % 2 ^ 64

-- the flag of a gram with this hash
abbrev pub gram_flag : ℕ → ℕ
gram_flag hash = hash / 2 ^ 46 % 262144

-- the flag of a gram with this hash that begins at this byte of a window
abbrev pub start_flag : ℕ → ℕ → ℕ
start_flag hash start = hash / 2 ^ 31 % 32768 * 8 + start
