use Rattle.std.proofs.Common.{length}
use Rattle.lic_marks.proofs.StateLemmas.{begins}
use Rattle.lic_marks.proofs.state.State.begin.Goals as goal

pub returns-clause-taken : goal.returns-clause-taken
returns-clause-taken c = λ r. begins r c.clear.new.row (length c.args.self.now.at_once) _ c.clear.ensures.clear
