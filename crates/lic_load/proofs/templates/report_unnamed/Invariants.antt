use Rattle.lic_load.specs.Reporting.{IsRepeated, line_of_unnamed}
use Rattle.lic_load.proofs.templates.report_unnamed.Given as goal

-- as many names are reported as were gone over
abbrev pub invariant-loop : goal.invariant-loop
invariant-loop g l =
    IsRepeated line_of_unnamed (g.E.Sink.taken l.initial.err) (g.E.Sink.failed l.initial.err) l.counter (g.E.Sink.taken l.err) (g.E.Sink.failed l.err)
