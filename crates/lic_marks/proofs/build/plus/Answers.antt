use Rattle.lic_marks.proofs.Built.{IsBuilt-Plus}
use Rattle.lic_marks.proofs.build.plus.Goals as goal

pub returns : goal.returns
returns c = IsBuilt-Plus _ _ c.requires (rw c.deref.ensures at c.weight-weight.ensures)
