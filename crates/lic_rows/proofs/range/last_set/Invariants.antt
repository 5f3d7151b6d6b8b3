use Rattle.lic_rows.specs.Bits.{has}
use Rattle.lic_rows.proofs.Finds.{LooksDown}
use Rattle.lic_rows.proofs.range.last_set.Given as goal

abbrev pub invariant-loop-word : goal.invariant-loop-word
invariant-loop-word l = LooksDown (λ b. has l.fn.row b) l.from l.to l.at l.word

abbrev pub decreases-loop-word : goal.decreases-loop-word
decreases-loop-word l = l.at
