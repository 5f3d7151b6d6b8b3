-- The sets so far are made, and those that were there are there.
use Rattle.std.proofs.Common.{◌≡◌, ℕ, ◌≤◌, length}
use Rattle.lic_vars.specs.Sets.{AreSuffixSets, IsThere}
use Rattle.lic_vars.proofs.sets.fill.Given as goal

abbrev pub invariant-loop-before : goal.invariant-loop-before
invariant-loop-before l = record {
  sets : AreSuffixSets l.view l.instructions l.sets.items;
  count : length l.sets.items ≡ length l.initial.sets.items;
  stay : (k : ℕ) → IsThere l.initial.sets.items k → IsThere l.sets.items k;
  made : (k : ℕ) → l.start ≤ k → k ≤ l.before → IsThere l.sets.items k;
}
