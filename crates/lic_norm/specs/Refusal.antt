-- Which inputs are refused.
use Rattle.std.specs.Prelude.{◌≡◌, ℕ, if◌then◌else◌, List, length, Option, None, Some, nat_lt}
use Rattle.lic_norm.specs.declared.fault.TextFault.{TextFault}
use Rattle.lic_norm.specs.declared.fault.TextFault.TheVariants.{TooLong, Memory}

-- the most bytes of an input
abbrev pub max_bytes : ℕ
max_bytes = 67108864

-- the refusal of an input, if it is refused: it is too long, whatever its bytes are
unfoldable pub refusal_of : List ℕ → Option TextFault
refusal_of bytes = if nat_lt max_bytes (length bytes) then Some TooLong else None

-- why this input is answered by a fault: it is too long; or memory ran out, and it is not
abbrev pub IsRefusal : TextFault → List ℕ → Type 0
IsRefusal TooLong bytes = refusal_of bytes ≡ Some TooLong
IsRefusal Memory bytes = refusal_of bytes ≡ None
