-- The offsets of flags that are set.
use Rattle.std.specs.Prelude.{ℕ, suc, Bool, true, false, List, [], ◌∷◌}

-- the offsets at which a flag is set, in rising order, where the first flag is at this offset
abbrev pub offsets : ℕ → List Bool → List ℕ
offsets at [] = []
offsets at (true ∷ flags) = at ∷ offsets (suc at) flags
offsets at (false ∷ flags) = offsets (suc at) flags
