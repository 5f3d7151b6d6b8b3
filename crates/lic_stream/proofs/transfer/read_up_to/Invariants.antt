use Rattle.std.proofs.Common.{◌≡◌, ◌≤◌, ◌-◌, length}
use Rattle.std.specs.Io.KnownBytes.{Consumes}
use Rattle.lic_stream.proofs.transfer.read_up_to.Given as goal

abbrev pub invariant-loop-bytes : goal.invariant-loop-bytes
invariant-loop-bytes g l =
    record {
      within : length l.bytes.items ≤ l.fn.limit;
      read : Consumes (g.R.Source.left l.initial.input) (g.R.Source.left l.input) l.bytes.items;
      sound : g.R.Source.failed l.input ≡ g.R.Source.failed l.initial.input;
    }

abbrev pub decreases-loop-bytes : goal.decreases-loop-bytes
decreases-loop-bytes g l = l.fn.limit - length l.bytes.items
