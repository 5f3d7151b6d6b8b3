use Rattle.lic_letters.proofs.OwnLanes.{classes_are, high_fits, low_fits}
use Rattle.lic_letters.proofs.wide.own.classes.Goals as goal

pub swizzle-by_low : goal.swizzle-by_low
swizzle-by_low c = low_fits c.args.bytes c.fits-bytes

pub swizzle-by_high : goal.swizzle-by_high
swizzle-by_high c = high_fits c.args.bytes c.fits-bytes

pub returns : goal.returns
returns c = classes_are c.args.low c.args.high c.args.bytes c.fits-bytes
