use Rattle.std.proofs.Common.{subst, ◌∙◌}
use Rattle.std.specs.String.{string_bytes}
use Rattle.lic_load.specs.Reporting.{IsReported}
use Rattle.lic_load.proofs.templates.report_left_out.Goals as goal

pub returns : goal.returns
returns g c = (
  string_bytes c.in_ok-why.why,
  subst (λ text. IsReported (g.E.Sink.taken c.args.err.now) (g.E.Sink.taken c.tell.new.err) (g.E.Sink.failed c.args.err.now) (g.E.Sink.failed c.tell.new.err) text)
      (c.as_str.ensures.value ∙ c.in_ok-line.ensures.ok) c.tell.ensures,
)
