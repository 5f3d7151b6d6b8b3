use Rattle.std.proofs.Common.{◌≡◌, ◌≤◌, ◌+◌, min, map, drop}
use Rattle.lic_markup.specs.Parts.{part_of, sequence, sequence_weight}
use Rattle.lic_markup.proofs.weights.+part_weight.Given as goal

abbrev pub invariant-parts_weight-loop-i : goal.invariant-parts_weight-loop-i
invariant-parts_weight-loop-i l =
    record {
      bound : l.sum ≤ 131073;
      sum : min (l.sum + sequence_weight (sequence (map part_of (drop l.i l.parts)))) 131073 ≡ min (sequence_weight (sequence (map part_of l.parts))) 131073;
    }
