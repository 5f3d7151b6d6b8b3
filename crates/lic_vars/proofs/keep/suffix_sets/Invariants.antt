-- The sets that are there are right.
use Rattle.std.proofs.Common.{◌≡◌, ◌+◌, length}
use Rattle.lic_vars.specs.Sets.{AreSuffixSets}
use Rattle.lic_vars.proofs.keep.suffix_sets.Given as goal

abbrev pub invariant-loop-number : goal.invariant-loop-number
invariant-loop-number l = record {
  sets : AreSuffixSets l.view l.instructions l.sets.items;
  count : length l.sets.items ≡ l.number;
  stays : length l.stays.items ≡ length l.instructions + 1;
}
