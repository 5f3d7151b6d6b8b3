-- The least number lies between the bounds.
use Rattle.std.proofs.Common.{◌-◌}
use Rattle.lic_ere.specs.Trees.{tree_of}
use Rattle.lic_ere.specs.Meaning.{tree_words}
use Rattle.lic_vars.specs.Shortest.{IsBetween}
use Rattle.lic_vars.proofs.variable.least_number.Given as goal

abbrev pub invariant-loop-low : goal.invariant-loop-low
invariant-loop-low l = IsBetween l.view (tree_words (tree_of l.ere)) l.spans l.cut l.low l.high

abbrev pub decreases-loop-low : goal.decreases-loop-low
decreases-loop-low l = l.high - l.low
