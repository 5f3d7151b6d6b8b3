use Rattle.std.proofs.Common.{◌≡◌, ◌+◌, ◌-◌, ◌%◌, ◌<◌, ◌≤◌, length}
use Rattle.lic_columns.proofs.OffsetLists.{IsWritten}
use Rattle.lic_columns.proofs.offsets.put_offsets.Given as goal

abbrev pub invariant-loop-rest : goal.invariant-loop-rest
invariant-loop-rest l = (0 < l.rest → l.i + 4 ≤ 64) × (l.i % 4 ≡ 0) × (length l.out ≡ length l.initial.out) × IsWritten l.at l.mask l.n l.i l.rest l.initial.out l.out

abbrev pub decreases-loop-rest : goal.decreases-loop-rest
decreases-loop-rest l = 64 - l.i
