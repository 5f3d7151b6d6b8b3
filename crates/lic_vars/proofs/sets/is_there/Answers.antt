-- A set is there where it is read.
use Rattle.std.proofs.Common.{refl}
use Rattle.lic_vars.proofs.KeptLemmas.{There-read}
use Rattle.lic_vars.proofs.sets.is_there.Goals as goal

pub returns-in-Some : goal.returns-in-Some
returns-in-Some c =
    (λ is. There-read c.args.sets.now c.args.number c.index-sets-number.result _ c.requires c.index-sets-number.is c.in-Some.is, λ there. refl)
