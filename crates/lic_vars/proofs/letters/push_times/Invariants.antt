-- The span is added as often as it is left to be.
use Rattle.std.proofs.Common.{◌≡◌, ◌++◌, replicate}
use Rattle.lic_vars.proofs.letters.push_times.Given as goal

abbrev pub invariant-loop-left : goal.invariant-loop-left
invariant-loop-left l = l.spans.items ++ replicate l.left l.span ≡ l.initial.spans.items ++ replicate l.count l.span

abbrev pub decreases-loop-left : goal.decreases-loop-left
decreases-loop-left l = l.left
