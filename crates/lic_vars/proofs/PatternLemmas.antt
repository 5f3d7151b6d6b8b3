-- What is known of the pattern of a variable among the instructions.
use Rattle.std.proofs.Common.{◌≡◌, ℕ, ◌<◌, List, length, get_or, sym, subst}
use Rattle.std.specs.List.{All}
use Rattle.lic_vars.specs.Cuts.{IsPiece}
use Rattle.lic_vars.specs.declared.instructions.Instruction.{Instruction}

-- the instruction of this number is a piece
pub piece-at : (instructions : List Instruction) (i : ℕ) (instruction one : Instruction) → All IsPiece instructions → i < length instructions → instruction ≡ get_or instructions i instruction → instruction ≡ one → IsPiece one
piece-at instructions i instruction one all below is same = subst IsPiece same (subst IsPiece (sym is) (all i instruction below))
