use Rattle.lic_marks.proofs.StateLemmas.{begins}
use Rattle.lic_marks.proofs.state.State.new.Goals as goal

pub returns-clause-taken : goal.returns-clause-taken
returns-clause-taken c = λ r. begins r c.in_ok-at_once.at_once c.weight-weight.result _ c.in_ok-at_once.ensures
