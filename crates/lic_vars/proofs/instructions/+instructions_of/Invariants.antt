use Rattle.std.proofs.Common.{◌≡◌, ◌++◌, map, drop}
use Rattle.std.specs.List.{All}
use Rattle.lic_markup.specs.Parts.{sequence, part_of}
use Rattle.lic_vars.specs.Moves.{moves}
use Rattle.lic_vars.specs.Cuts.{moves_of, IsPiece}
use Rattle.lic_vars.proofs.instructions.+instructions_of.Given as goal

-- the instructions so far, and those of the parts that are left
abbrev pub invariant-loop-i : goal.invariant-loop-i
invariant-loop-i l = record {
  moves : moves_of l.instructions.items ++ moves (sequence (map part_of (drop l.i l.parts))) ≡ moves (sequence (map part_of l.parts));
  pieces : All IsPiece l.instructions.items;
}
