use Rattle.lic_marks.proofs.Built.{IsBuilt-UpTo}
use Rattle.lic_marks.proofs.build.up_to.Goals as goal

pub returns : goal.returns
returns c = IsBuilt-UpTo _ _
