use Rattle.std.proofs.Common.{◌≡◌, ◌≤◌, ◌+◌, min, map, drop}
use Rattle.lic_ere.specs.Trees.{tree_of, sequence}
use Rattle.lic_markup.specs.Weights.{weights}
use Rattle.lic_markup.proofs.weights.+pattern_weight.Given as goal

abbrev pub invariant-pattern_weights-loop-i : goal.invariant-pattern_weights-loop-i
invariant-pattern_weights-loop-i l =
    record {
      bound : l.sum ≤ 131073;
      sum : min (l.sum + weights (sequence (map tree_of (drop l.i l.subs)))) 131073 ≡ min (weights (sequence (map tree_of l.subs))) 131073;
    }
