use Rattle.std.proofs.Common.{arith}
use Rattle.std.specs.Char.{is_ascii_alphabetic}
use Rattle.lic_trim.proofs.ItemLemmas.{all_of_one}
use Rattle.lic_trim.proofs.item.is_letter.Goals as goal

pub returns-then-text-eq1 : goal.returns-then-text-eq1
returns-then-text-eq1 c = all_of_one is_ascii_alphabetic c.args.text.now c.are_letters.result (omega arith) c.are_letters.ensures
