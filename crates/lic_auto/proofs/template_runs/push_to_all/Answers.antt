use Rattle.std.proofs.Common.{get_or, arith}
use Rattle.std.specs.Str.{chars}
use Rattle.std.proofs.lemmas.Option.{slice_get-get_or}
use Rattle.lic_auto.specs.TemplateRuns.{Takes}
use Rattle.lic_auto.proofs.Changing.{Changed-more}
use Rattle.lic_auto.proofs.template_runs.push_to_all.Goals as goal

pub loop-run-preserved : goal.loop-run-preserved
loop-run-preserved c =
    let i = c.loop-run.run-index in
    let runs = c.loop-run.runs in
    let here = slice_get-get_or runs i c.run-item.result (omega (arith, c.loop-run-test.true)) in
    Changed-more (Takes (chars c.args.token.now)) i c.args.runs.now runs (get_or runs i c.run-item.result) c.push.new.self c.loop-run.invariant here c.push.ensures
