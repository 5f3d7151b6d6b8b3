use Rattle.std.proofs.Common.{arith}
use Rattle.lic_fields.proofs.Thousands.{first_digits_three, hundreds}
use Rattle.lic_fields.proofs.thousand.Thousand.hundreds.Goals as goal

pub invariant_of-result : goal.invariant_of-result
invariant_of-result c = hundreds _ c.last_digits.ensures

pub returns : goal.returns
returns c = first_digits_three 100 (omega arith) (omega arith)
