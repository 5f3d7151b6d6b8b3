-- The values so far, completed by those of the least record of what is left, are those of the least of all.
use Rattle.std.proofs.Common.{◌≤◌, length, map}
use Rattle.lic_vars.specs.Cuts.{last_moves, moves_of}
use Rattle.lic_vars.specs.Recorded.{IsWalk}
use Rattle.lic_vars.specs.Sets.{AreSuffixSets}
use Rattle.lic_vars.specs.Views.{value_of}
use Rattle.lic_vars.proofs.search.least_values.Given as goal

abbrev pub invariant-loop-walk : goal.invariant-loop-walk
invariant-loop-walk l = record {
  within : l.walk.left ≤ length l.instructions;
  walk : IsWalk l.view (moves_of l.instructions) (last_moves l.instructions l.walk.left) l.letters (map value_of l.walk.values.items) l.walk.cut l.walk.letters.now;
  sets : AreSuffixSets l.view l.instructions l.sets.items;
  enough : l.walk.left ≤ length l.sets.items;
}

abbrev pub decreases-loop-walk : goal.decreases-loop-walk
decreases-loop-walk l = l.walk.left
