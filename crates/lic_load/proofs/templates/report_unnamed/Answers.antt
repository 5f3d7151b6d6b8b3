use Rattle.lic_load.specs.Reporting.IsRepeated.{never, once_more}
use Rattle.lic_load.proofs.templates.report_unnamed.Goals as goal

pub loop-init : goal.loop-init
loop-init g c = never

pub loop-preserved : goal.loop-preserved
loop-preserved g c = once_more c.loop.invariant c.tell.ensures
