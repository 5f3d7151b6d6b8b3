use Rattle.lic_marks.proofs.Built.{IsBuilt-Copies}
use Rattle.lic_marks.proofs.build.copies.Goals as goal

pub returns : goal.returns
returns c = IsBuilt-Copies _ _
