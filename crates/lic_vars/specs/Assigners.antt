-- What an assigner is to its callers, and what it keeps.
use Rattle.std.specs.Prelude.{◌≡◌, ℕ, List, Some, slice_get}
use Rattle.std.specs.List.{All}
use Rattle.lic_set.specs.Sets.{Known}
use Rattle.lic_vars.specs.Values.{nodes_of}
use Rattle.lic_vars.specs.Moves.{moves}
use Rattle.lic_vars.specs.Cuts.{moves_of, IsPiece}
use Rattle.lic_vars.specs.declared.instructions.Instruction.{Instruction}

-- the set, and the number of the template that is compiled
pub record AssignerValue : Type 0 where
  pub set : List Known
  pub template : ℕ

-- the instructions are those of the template of this number
pub record AreInstructionsOf (set : List Known) (k : ℕ) (instructions : List Instruction) : Type 0 where
  pub pieces : All IsPiece instructions
  pub moves : (known : Known) → slice_get set k ≡ Some known → moves_of instructions ≡ moves (nodes_of known)
