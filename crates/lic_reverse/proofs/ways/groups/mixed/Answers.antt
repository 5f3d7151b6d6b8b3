use Rattle.std.proofs.Common.{refl}
use Rattle.lic_reverse.specs.LetterGroups.{mixed}
use Rattle.lic_reverse.proofs.ways.groups.mixed.Goals as goal

pub returns : goal.returns
unfolding mixed
returns c = refl
