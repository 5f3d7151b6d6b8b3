-- The patterns so far are repeated.
use Rattle.std.proofs.Common.{ℕ, ◌-◌, ◌<◌, ◌≤◌, length}
use Rattle.lic_reverse.specs.Tidily.{IsRepeated}
use Rattle.lic_reverse.proofs.patterns.after_repeated.Given as goal

abbrev pub invariant-loop-next : goal.invariant-loop-next
invariant-loop-next l = record {
  after : l.number < l.next;
  within : l.next ≤ length l.subs;
  repeated : (i : ℕ) → l.number < i → i < l.next → IsRepeated l.subs i;
}

abbrev pub decreases-loop-next : goal.decreases-loop-next
decreases-loop-next l = length l.subs - l.next
