use Rattle.lic_columns.proofs.BitLemmas.{without_is}
use Rattle.lic_columns.proofs.mask.without.Goals as goal

pub returns : goal.returns
returns c = λ k small. without_is c.args.mask c.args.from c.args.to _ _ k c.requires.from c.requires.to c.below.ensures c.below-2.ensures small
