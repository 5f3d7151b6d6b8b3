use Rattle.std.proofs.Common.{◌≡◌, ◌++◌, length, nat_lt}
use Rattle.std.specs.List.{flat_map}
use Rattle.lic_report.specs.Report.{match_line}
use Rattle.lic_report.specs.Wanted.{wanted_of}
use Rattle.lic_stream.proofs.Written.{IsPut}
use Rattle.lic_engine.proofs.engine.report_all.Given as goal

abbrev pub invariant-loop-triple : goal.invariant-loop-triple
invariant-loop-triple g l =
    record {
      can : (goal.iterator-loop-triple g).can_next l.triple-iterator;
      finite : (goal.iterator-loop-triple g).is_finite l.triple-iterator;
      of : l.match_lines ≡ record { name = l.name; set = l.set };
      all : wanted_of l.initial.triple-iterator ≡ l.yielded ++ wanted_of l.triple-iterator;
      put : IsPut (g.W.Sink.taken l.initial.out) (g.W.Sink.taken l.out) l.lines.items (flat_map (match_line l.name l.set l.text.tokens) l.yielded);
      some : l.some ≡ nat_lt 0 (length l.yielded);
      sound : g.W.Sink.failed l.out ≡ g.W.Sink.failed l.initial.out;
    }
