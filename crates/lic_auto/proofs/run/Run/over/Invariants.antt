use Rattle.std.proofs.Common.{◌≡◌, take, []}
use Rattle.lic_auto.specs.TemplateRuns.{AreFollowing, AreOver, run_numbers}
use Rattle.lic_auto.proofs.run.Run.over.Given as goal

abbrev pub invariant-loop-number : goal.invariant-loop-number
invariant-loop-number l = record {
  numbers : run_numbers l.runs.items ≡ take l.number-index l.number-items;
  over : AreOver l.set l.runs.items;
  follow : AreFollowing l.set l.runs.items (run_numbers l.runs.items) [];
}
