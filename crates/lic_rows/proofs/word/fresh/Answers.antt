use Rattle.lic_rows.proofs.OneWord.{fresh_bit}
use Rattle.lic_rows.proofs.word.fresh.Goals as goal

pub returns : goal.returns
returns c = λ i within. fresh_bit c.args.word c.args.other i c.ranges.word.fits within
