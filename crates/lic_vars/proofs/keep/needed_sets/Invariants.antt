-- There is an answer for each set.
use Rattle.std.proofs.Common.{◌≡◌, ◌+◌, length}
use Rattle.lic_vars.proofs.keep.needed_sets.Given as goal

abbrev pub invariant-loop-number : goal.invariant-loop-number
invariant-loop-number l = length l.needed.items ≡ length l.instructions + 1
