use Rattle.lic_marks.proofs.Built.{IsBuilt-Alt}
use Rattle.lic_marks.proofs.build.alt.Goals as goal

pub returns-clause-built : goal.returns-clause-built
returns-clause-built c = IsBuilt-Alt _ _ c.requires (rw c.deref.ensures.value at c.in_ok-weight.ensures.total)
