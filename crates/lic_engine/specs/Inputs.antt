-- What was read of an input.
use Rattle.std.specs.Prelude.{◌≡◌, ℕ, List, ◌++◌, Option, Some, None}
use Rattle.std.specs.Io.KnownBytes.{Consumes, IsAtEnd}
use Rattle.lic_norm.specs.Refusal.{refusal_of}
use Rattle.lic_norm.specs.declared.fault.TextFault.{TextFault}

-- these bytes were read to the end, and are no refused input
abbrev pub IsAccepted : Option (List ℕ) → Option (List ℕ) → List ℕ → Type 0
IsAccepted old new bytes = Consumes old new bytes × IsAtEnd new × (refusal_of bytes ≡ None)

-- what was read is refused so, however it continues
abbrev pub IsRefused : Option (List ℕ) → Option (List ℕ) → TextFault → Type 0
IsRefused old new fault = (bytes : List ℕ)
    × Consumes old new bytes
    × ((more : List ℕ) → refusal_of (bytes ++ more) ≡ Some fault)

-- what was read is no refused input
abbrev pub IsUnrefused : Option (List ℕ) → Option (List ℕ) → Type 0
IsUnrefused old new = (bytes : List ℕ) × Consumes old new bytes × (refusal_of bytes ≡ None)
