use Rattle.std.proofs.Common.{◌≡◌, take}
use Rattle.lic_set.specs.declared.triple.Triple.{Triple}
use Rattle.lic_report.specs.Report.{HasItsValues, Valued, triple_of, valued_lines}
use Rattle.lic_engine.proofs.DoneLemmas.{AreDone}
use Rattle.lic_engine.proofs.outer.put_valued.Given as goal

abbrev pub invariant-loop-triple : goal.invariant-loop-triple
invariant-loop-triple g l =
    record {
      of : l.valued ≡ record { name = l.name; set = l.set };
      done : AreDone Triple Valued triple_of (HasItsValues l.set l.text.tokens) (valued_lines l.name l.set l.text.source l.text.tokens)
          (g.W.Sink.taken l.initial.out) (g.W.Sink.taken l.out) l.lines.items (take l.triple-index l.triples);
      sound : g.W.Sink.failed l.out ≡ g.W.Sink.failed l.initial.out;
    }
