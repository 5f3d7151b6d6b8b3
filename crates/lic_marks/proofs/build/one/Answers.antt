use Rattle.lic_marks.proofs.Built.{IsBuilt-One}
use Rattle.lic_marks.proofs.build.one.Goals as goal

pub returns : goal.returns
returns c = IsBuilt-One _
