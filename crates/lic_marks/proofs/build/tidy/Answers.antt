use Rattle.lic_marks.proofs.Built.{IsBuilt-Tidy}
use Rattle.lic_marks.proofs.build.tidy.Goals as goal

pub returns : goal.returns
returns c = IsBuilt-Tidy _ _ c.requires (rw c.deref.ensures at c.weight-weight.ensures) _ (rw c.deref-2.ensures at c.is_nullable-is_nullable.ensures)
