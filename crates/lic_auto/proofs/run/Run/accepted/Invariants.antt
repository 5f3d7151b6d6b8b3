use Rattle.lic_auto.proofs.Accepting.{FailBefore}
use Rattle.lic_auto.proofs.run.Run.accepted.Given as goal

abbrev pub invariant-loop-run : goal.invariant-loop-run
invariant-loop-run l = FailBefore l.self.runs.items l.from l.run-index
