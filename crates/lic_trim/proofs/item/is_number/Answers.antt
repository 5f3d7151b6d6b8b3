use Rattle.std.proofs.Common.{arith}
use Rattle.std.specs.Char.{is_ascii_digit}
use Rattle.lic_trim.proofs.ItemLemmas.{all_in_range}
use Rattle.lic_trim.proofs.item.is_number.Goals as goal

pub returns-then-text-le3 : goal.returns-then-text-le3
returns-then-text-le3 c = all_in_range 1 3 is_ascii_digit c.args.text.now c.are_digits.result (omega arith) (omega arith) c.are_digits.ensures
