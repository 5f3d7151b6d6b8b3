use Rattle.std.proofs.Common.{ℕ, ◌<◌}
use Rattle.std.specs.List.{Contains}
use Rattle.lic_set.specs.Rising.{IsRising}
use Rattle.lic_auto.proofs.chosen.all_numbers.Given as goal

abbrev pub invariant-loop-number : goal.invariant-loop-number
invariant-loop-number l = record {
  rising : IsRising l.numbers.items l.number;
  all : (k : ℕ) → k < l.number → Contains l.numbers.items k;
}
