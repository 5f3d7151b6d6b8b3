-- What was added leads to the places of the numbers from this one on.
use Rattle.std.proofs.Common.{◌≤◌}
use Rattle.lic_reverse.proofs.CountNumbers.{AddsFrom}
use Rattle.lic_reverse.proofs.letters.counts.add_counted.Given as goal

abbrev pub invariant-loop-number : goal.invariant-loop-number
invariant-loop-number l = record {
  low : l.span.low ≤ l.number;
  adds : AddsFrom l.keep l.view l.span l.number l.fn.found.items l.found.items;
}
