use Rattle.std.proofs.Common.{refl}
use Rattle.lic_reverse.proofs.KnownStreaks.{longest-first}
use Rattle.lic_reverse.proofs.letters.streak.first_streak.Goals as goal

pub returns : goal.returns
returns c = λ bytes passes count. longest-first bytes passes count _ refl refl refl
