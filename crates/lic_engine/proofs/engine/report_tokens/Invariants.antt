use Rattle.std.proofs.Common.{◌≡◌, ◌≤◌, ◌-◌, length, take}
use Rattle.lic_fields.specs.Fields.{escaped, field}
use Rattle.lic_report.specs.Report.{token_lines}
use Rattle.lic_stream.proofs.Written.{IsPut}
use Rattle.lic_engine.proofs.engine.report_tokens.Given as goal

abbrev pub invariant-loop-token_lines : goal.invariant-loop-token_lines
invariant-loop-token_lines g l =
    record {
      front : l.token_lines.front ≡ field (escaped l.name) 0x09;
      tokens : l.token_lines.tokens ≡ l.text.tokens;
      within : l.token_lines.added ≤ length l.text.tokens;
      put : IsPut (g.W.Sink.taken l.initial.out) (g.W.Sink.taken l.out) l.lines (token_lines l.name (take l.token_lines.added l.text.tokens));
      sound : g.W.Sink.failed l.out ≡ g.W.Sink.failed l.initial.out;
    }

abbrev pub decreases-loop-token_lines : goal.decreases-loop-token_lines
decreases-loop-token_lines g l = length l.text.tokens - l.token_lines.added
