use Rattle.lic_columns.proofs.BitLemmas.{moved_up_first, moved_up_rest}
use Rattle.lic_columns.proofs.mask.moved_up.Goals as goal

pub returns-clause-first : goal.returns-clause-first
returns-clause-first c = moved_up_first c.args.before c.args.mask c.ranges.before.fits

pub returns-clause-rest : goal.returns-clause-rest
returns-clause-rest c = moved_up_rest c.args.before c.args.mask c.ranges.before.fits
