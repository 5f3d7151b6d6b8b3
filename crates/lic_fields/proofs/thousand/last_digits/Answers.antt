use Rattle.std.proofs.Common.{◌-◌, drop, take_all, arith, length-drop}
use Rattle.lic_fields.specs.Fronts.{last_digits_below_1000}
use Rattle.lic_fields.proofs.thousand.last_digits.Goals as goal

pub returns : goal.returns
returns c = take_all (1000 - c.args.from) (drop c.args.from last_digits_below_1000) (let e = length-drop c.args.from last_digits_below_1000 in omega (arith, e))
