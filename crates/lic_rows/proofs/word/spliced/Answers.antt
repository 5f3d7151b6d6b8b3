use Rattle.std.proofs.Common.{arith}
use Rattle.lic_rows.proofs.OneWord.{spliced_below, spliced_above}
use Rattle.lic_rows.proofs.word.spliced.Goals as goal

pub returns-clause-below : goal.returns-clause-below
returns-clause-below c = λ i below. spliced_below c.args.low c.args.high c.args.at i c.requires (omega (arith, c.requires, below)) below

pub returns-clause-above : goal.returns-clause-above
returns-clause-above c = λ i above within. spliced_above c.args.low c.args.high c.args.at i c.requires within above
