use Rattle.std.proofs.Common.{◌-◌, ◌≤◌, length}
use Rattle.std.specs.List.{slice_range}
use Rattle.lic_fields.specs.Fields.{ArePlain}
use Rattle.lic_fields.proofs.next_escaped.Given as goal

-- the bytes so far have nothing to escape
abbrev pub invariant-loop-at : goal.invariant-loop-at
invariant-loop-at l = record {
  after : l.fn.from ≤ l.at;
  within : l.at ≤ length l.bytes;
  plain : ArePlain (slice_range l.bytes l.fn.from l.at);
}

abbrev pub decreases-loop-at : goal.decreases-loop-at
decreases-loop-at l = length l.bytes - l.at
