use Rattle.lic_auto.specs.Changes.{AreChangedBefore}
use Rattle.lic_auto.specs.TemplateRuns.{BeginsAmong}
use Rattle.lic_auto.proofs.template_runs.begin_among.Given as goal

abbrev pub invariant-loop-run : goal.invariant-loop-run
invariant-loop-run l = AreChangedBefore (BeginsAmong l.numbers) l.run-index l.initial.runs l.runs
