-- The ends of the occurrences that begin before the offset from which the search continues.
use Rattle.std.proofs.Common.{ℕ, ◌+◌, ◌-◌, ◌<◌, ◌≤◌, length}
use Rattle.std.specs.Prelude.{◌↔◌}
use Rattle.std.specs.List.{Contains}
use Rattle.std.specs.List.Sorted.{IsStrictlyIncreasing}
use Rattle.lic_literals.specs.Ends.{EndsAt}
use Rattle.lic_literals.proofs.ends.ends_within.Given as goal

abbrev pub invariant-loop-start : goal.invariant-loop-start
invariant-loop-start l = record {
  low : l.from ≤ l.start + length l.literal;
  exact : (e : ℕ) → Contains l.ends.items e
      ↔ ((l.from ≤ e) × (e ≤ l.to) × EndsAt l.bytes l.literal e × (e < l.start + length l.literal));
  rising : IsStrictlyIncreasing l.ends.items;
}

abbrev pub decreases-loop-start : goal.decreases-loop-start
decreases-loop-start l = l.to - l.start
