use Rattle.std.proofs.Common.{◌/◌, ◌-◌, length}
use Rattle.lic_columns.specs.Masks.{flag_at}
use Rattle.lic_columns.proofs.Finds.{Looks}
use Rattle.lic_columns.proofs.columns.search.first_set.Given as goal

abbrev pub invariant-loop-mask : goal.invariant-loop-mask
invariant-loop-mask l = Looks (λ b. flag_at l.flags b) l.from (length l.flags) l.k l.mask

abbrev pub decreases-loop-mask : goal.decreases-loop-mask
decreases-loop-mask l = length l.flags / 64 - l.k
