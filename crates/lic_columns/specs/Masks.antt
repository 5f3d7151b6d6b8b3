-- Masks: numbers that are read bit by bit.
use Rattle.std.specs.Prelude.{◌≡◌, ℕ, zero, suc, ◌+◌, ◌*◌, ◌<◌, Bool, false, List, slice_index_or}
use Rattle.lic_trim.specs.PieceLengths.{has_bit}

-- whether flag k of a list is set: past its end none is
abbrev pub flag_at : List Bool → ℕ → Bool
flag_at flags k = slice_index_or flags k false

-- whether the flag before this offset is set: before the first none is
abbrev pub flag_before : List Bool → ℕ → Bool
flag_before flags zero = false
flag_before flags (suc k) = flag_at flags k

-- bit k of the mask is set exactly if flag k is
pub record IsMask (mask : ℕ) (flags : List Bool) : Type 0 where
  pub bit : (k : ℕ) → has_bit mask k ≡ flag_at flags k

-- bit i of the mask is flag k * 64 + i
pub record IsColumn (mask : ℕ) (flags : List Bool) (k : ℕ) : Type 0 where
  pub bit : (i : ℕ) → i < 64 → has_bit mask i ≡ flag_at flags (k * 64 + i)

-- the highest bit of the mask is the flag before column k
pub record EndsBefore (mask : ℕ) (flags : List Bool) (k : ℕ) : Type 0 where
  pub last : has_bit mask 63 ≡ flag_before flags (k * 64)
