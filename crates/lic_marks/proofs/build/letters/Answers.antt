use Rattle.lic_marks.proofs.Built.{IsBuilt-Letters}
use Rattle.lic_marks.proofs.build.letters.Goals as goal

pub returns : goal.returns
returns c = IsBuilt-Letters _
