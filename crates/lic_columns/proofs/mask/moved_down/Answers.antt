use Rattle.lic_columns.proofs.BitLemmas.{moved_down_last, moved_down_rest}
use Rattle.lic_columns.proofs.mask.moved_down.Goals as goal

pub returns-clause-last : goal.returns-clause-last
returns-clause-last c = moved_down_last c.args.mask c.args.after c.ranges.mask.fits

pub returns-clause-rest : goal.returns-clause-rest
returns-clause-rest c = moved_down_rest c.args.mask c.args.after c.ranges.mask.fits
