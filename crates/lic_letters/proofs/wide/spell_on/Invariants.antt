use Rattle.std.proofs.Common.{◌≡◌, ◌-◌, ◌≤◌, length}
use Rattle.lic_letters.specs.Simple.{AreDone}
use Rattle.lic_letters.proofs.wide.spell_on.Given as goal

abbrev pub invariant-loop-at : goal.invariant-loop-at
invariant-loop-at l = (l.from ≤ l.at) × AreDone l.bytes l.at l.spelled × (length l.spelled ≡ length l.fn.spelled)

abbrev pub decreases-loop-at : goal.decreases-loop-at
decreases-loop-at l = length l.bytes - l.at
