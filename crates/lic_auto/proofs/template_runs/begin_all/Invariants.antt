use Rattle.lic_auto.specs.Changes.{AreChangedBefore}
use Rattle.lic_auto.specs.TemplateRuns.{BeginsAmong, run_numbers}
use Rattle.lic_auto.proofs.template_runs.begin_all.Given as goal

abbrev pub invariant-loop-run : goal.invariant-loop-run
invariant-loop-run l = AreChangedBefore (BeginsAmong (run_numbers l.initial.runs)) l.run-index l.initial.runs l.runs
