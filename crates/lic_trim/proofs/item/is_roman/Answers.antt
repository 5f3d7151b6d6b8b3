use Rattle.std.proofs.Common.{arith}
use Rattle.lic_trim.specs.Lines.{is_roman_digit}
use Rattle.lic_trim.proofs.ItemLemmas.{all_in_range}
use Rattle.lic_trim.proofs.item.is_roman.Goals as goal

pub returns-then-text-le5 : goal.returns-then-text-le5
returns-then-text-le5 c = all_in_range 1 5 is_roman_digit c.args.text.now c.are_roman_digits.result (omega arith) (omega arith) c.are_roman_digits.ensures
