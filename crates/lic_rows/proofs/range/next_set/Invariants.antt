use Rattle.std.proofs.Common.{◌/◌, ◌-◌}
use Rattle.lic_rows.specs.Bits.{has}
use Rattle.lic_rows.proofs.Finds.{Looks}
use Rattle.lic_rows.proofs.range.next_set.Given as goal

abbrev pub invariant-loop-word : goal.invariant-loop-word
invariant-loop-word l = Looks (λ b. has l.fn.row b) l.from l.to l.at l.word

abbrev pub decreases-loop-word : goal.decreases-loop-word
decreases-loop-word l = l.to / 64 - l.at
