use Rattle.std.proofs.Common.{sym, ◌∙◌}
use Rattle.lic_ere.proofs.Complete.{IsPattern-read}
use Rattle.lic_ere.proofs.FaultRuns.{IsFaultOf-reading}
use Rattle.lic_ere.proofs.FaultSpelled.{not_failed}
use Rattle.lic_ere.proofs.laws.no_fault_is_in_the_grammar.Goals as goal

pub returns : goal.returns
returns c = λ pattern tree e is faulty. not_failed tree e (sym (IsPattern-read pattern tree is) ∙ IsFaultOf-reading pattern e faulty)
