-- The spans so far have no number from the low one on that is smaller.
use Rattle.std.proofs.Common.{◌≤◌, take}
use Rattle.lic_vars.specs.Shortest.{HaveNone}
use Rattle.lic_vars.proofs.variable.first_number.Given as goal

abbrev pub invariant-loop-span : goal.invariant-loop-span
invariant-loop-span l = record {
  order : l.low ≤ l.first;
  within : l.first ≤ l.high;
  none : HaveNone (take l.span-index l.spans) l.low l.first;
}
