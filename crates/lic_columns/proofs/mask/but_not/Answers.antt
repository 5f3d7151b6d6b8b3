use Rattle.lic_columns.proofs.BitLemmas.{but_not_is}
use Rattle.lic_columns.proofs.mask.but_not.Goals as goal

pub returns : goal.returns
returns c = λ k small. but_not_is c.args.mask c.args.other k c.ranges.other.fits small
