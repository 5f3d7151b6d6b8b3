use Rattle.std.proofs.Common.{◌≡◌, ◌≤◌, ◌+◌, ◌*◌, ◌++◌, length, take, ◌-◌}
use Rattle.lic_tokens.specs.Slices.{sliced_tokens}
use Rattle.lic_report.specs.TokenLines.{lines_between}
use Rattle.lic_report.proofs.token_lines.write_lines.Given as goal

abbrev pub invariant-loop-i : goal.invariant-loop-i
invariant-loop-i l =
    record {
      len : length l.bytes ≡ length l.initial.bytes;
      end : l.end ≤ length l.bytes;
      from : l.from ≤ l.i;
      within : l.i ≤ l.stop;
      room : l.end + 145 * (l.stop - l.i) ≤ length l.bytes;
      lines : take l.end l.bytes ≡ take l.at l.initial.bytes ++ lines_between l.pattern (sliced_tokens l.tokens) l.from l.i;
    }

abbrev pub decreases-loop-i : goal.decreases-loop-i
decreases-loop-i l = l.stop - l.i
