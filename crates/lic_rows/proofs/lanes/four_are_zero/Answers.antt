use Rattle.std.proofs.Common.{arith, eqb-true}
use Rattle.lic_rows.proofs.Zero.{all_zero, some_set}
use Rattle.lic_rows.proofs.lanes.four_are_zero.Goals as goal

pub returns-clause-zero : goal.returns-clause-zero
returns-clause-zero c = λ h. all_zero c.args.row.now c.args.at c.requires.within (eqb-true _ 0 h)

pub returns-clause-some : goal.returns-clause-some
returns-clause-some c = λ h. some_set c.args.row.now c.args.at c.requires.within (grind (arith, h))
