use Rattle.lic_marks.proofs.StateLemmas.{cleared}
use Rattle.lic_marks.proofs.state.State.clear.Goals as goal

pub returns-clause-taken : goal.returns-clause-taken
returns-clause-taken c = λ r. cleared r _ _ _ _ c.clear.ensures.clear c.clear-2.ensures.clear
