use Rattle.std.specs.Str.{chars}
use Rattle.lic_auto.specs.Changes.{AreChangedBefore}
use Rattle.lic_auto.specs.TemplateRuns.{Takes}
use Rattle.lic_auto.proofs.template_runs.push_to_all.Given as goal

abbrev pub invariant-loop-run : goal.invariant-loop-run
invariant-loop-run l = AreChangedBefore (Takes (chars l.token)) l.run-index l.initial.runs l.runs
