use Rattle.lic_letters.proofs.OwnLanes.{lowest_zero}
use Rattle.lic_letters.proofs.wide.own.first_zero.Goals as goal

pub returns-clause-zero : goal.returns-clause-zero
returns-clause-zero c = (lowest_zero c.args.mask c.ranges.mask.fits c.requires).zero

pub returns-clause-below : goal.returns-clause-below
returns-clause-below c = (lowest_zero c.args.mask c.ranges.mask.fits c.requires).below
