-- Which flags a set has.
use Rattle.std.specs.Prelude.{◌≡◌, ℕ, ◌/◌, ◌%◌, slice_index}
use Rattle.std.specs.Int.{bit_at}
use Rattle.lic_literals.specs.declared.flags.Flags.{Flags}

-- bit `flag % 64` of word `flag / 64` is set
abbrev pub Has : Flags → ℕ → Type 0
Has flags flag = bit_at (slice_index flags.words.items (flag / 64)) (flag % 64) ≡ 1
