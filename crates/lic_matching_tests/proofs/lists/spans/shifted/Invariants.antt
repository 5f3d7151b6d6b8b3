-- Each span so far ends no earlier than it begins, and before the greatest place.
use Rattle.std.proofs.Common.{◌<◌, ◌≤◌}
use Rattle.std.specs.List.{All}
use Rattle.lic_matching_tests.proofs.lists.spans.shifted.Given as goal

abbrev pub invariant-loop-low : goal.invariant-loop-low
invariant-loop-low l = record {
  ordered : All (λ s. s.low ≤ s.high) l.all.items;
  bounded : All (λ s. s.high < 18446744073709551615) l.all.items;
}
