-- The sets of the last instructions, as far as they are there.
use Rattle.std.specs.Prelude.{◌≡◌, ◌⊎◌, ℕ, ◌-◌, ◌<◌, ◌≤◌, List, ◌∷◌, Option, Some, Vec, length, slice_index_or}
use Rattle.std.specs.Global.{Global}
use Rattle.lic_norm.specs.Tokens.{TokenValue}
use Rattle.lic_spans.specs.declared.span.PlaceSpan.{PlaceSpan}
use Rattle.lic_vars.specs.Moves.{Move, optional}
use Rattle.lic_vars.specs.Cuts.{AreFinishing, last_moves}
use Rattle.lic_vars.specs.declared.instructions.Instruction.{Instruction}

-- the set of this number is there, and this is it
pub record IsSet (sets : List (Option (Vec PlaceSpan Global))) (k : ℕ) (set : Vec PlaceSpan Global) : Type 0 where
  pub within : k < length sets
  pub is : (d : Option (Vec PlaceSpan Global)) → slice_index_or sets k d ≡ Some set

-- the set of this number is there
pub record IsThere (sets : List (Option (Vec PlaceSpan Global))) (k : ℕ) : Type 0 where
  pub set : Vec PlaceSpan Global
  pub is : IsSet sets k set

-- the k-th of the sets is that of the last k instructions, if it is there, as that of no instruction is
pub record AreSuffixSets (tokens : List TokenValue) (instructions : List Instruction) (sets : List (Option (Vec PlaceSpan Global))) : Type 0 where
  pub are : (k : ℕ) (set : Vec PlaceSpan Global) → IsSet sets k set → AreFinishing tokens (last_moves instructions k) set.items
  pub first : IsThere sets 0

-- the k-th instruction from the end begins an optional part, and `other` instructions are left after it
pub record IsOther (instructions : List Instruction) (k other : ℕ) : Type 0 where
  pub size : ℕ
  pub moves : List Move
  pub instruction : last_moves instructions k ≡ optional size ∷ moves
  pub is : other ≡ k - 1 - size

-- this set is there, or has no smaller number than the lowest that can be needed
abbrev pub HasOther : List (Option (Vec PlaceSpan Global)) → ℕ → ℕ → Type 0
HasOther sets lowest other = IsThere sets other ⊎ (lowest ≤ other)

-- all sets from the low number up to the other one can be made, one from another and from those that are there
pub record IsStart (instructions : List Instruction) (sets : List (Option (Vec PlaceSpan Global))) (number low : ℕ) : Type 0 where
  pub below : low ≤ number
  pub there : IsThere sets low
  pub others : (k other : ℕ) → low < k → k ≤ number → IsOther instructions k other → HasOther sets low other
