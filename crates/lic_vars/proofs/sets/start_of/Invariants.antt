-- What the sets above are made from is there, or is not below the least number that is needed.
use Rattle.std.proofs.Common.{ℕ, ◌<◌, ◌≤◌}
use Rattle.lic_vars.specs.Sets.{HasOther, IsOther}
use Rattle.lic_vars.proofs.sets.start_of.Given as goal

abbrev pub invariant-loop-needed : goal.invariant-loop-needed
invariant-loop-needed l = record {
  below : l.low ≤ l.number;
  others : (k other : ℕ) → l.low < k → k ≤ l.number → IsOther l.instructions k other → HasOther l.sets l.needed other;
}

abbrev pub decreases-loop-needed : goal.decreases-loop-needed
decreases-loop-needed l = l.low
