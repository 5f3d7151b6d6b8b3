use Rattle.std.proofs.Common.{sym, ◌∙◌}
use Rattle.lic_ere.proofs.FaultRuns.{IsFaultOf-reading}
use Rattle.lic_ere.proofs.FaultSpelled.{same_fault}
use Rattle.lic_ere.proofs.laws.one_fault_decides.Goals as goal

pub returns : goal.returns
returns c = λ pattern one other is also. same_fault one other (sym (IsFaultOf-reading pattern one is) ∙ IsFaultOf-reading pattern other also)
