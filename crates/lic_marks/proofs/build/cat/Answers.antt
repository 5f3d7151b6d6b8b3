use Rattle.lic_marks.proofs.Built.{IsBuilt-Cat}
use Rattle.lic_marks.proofs.build.cat.Goals as goal

pub returns-clause-built : goal.returns-clause-built
returns-clause-built c = IsBuilt-Cat _ _ c.requires (rw c.deref.ensures.value at c.in_ok-weight.ensures.total)
