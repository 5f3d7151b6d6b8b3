use Rattle.std.proofs.Common.{arith}
use Rattle.lic_trim.specs.Lines.{is_bullet_sign}
use Rattle.lic_trim.proofs.ItemLemmas.{test_of_one}
use Rattle.lic_trim.proofs.item.is_bullet_item.Goals as goal

pub returns-then-text-eq1 : goal.returns-then-text-eq1
returns-then-text-eq1 c = test_of_one is_bullet_sign c.args.text.now c.is_bullet_sign.result (omega arith) c.is_bullet_sign.ensures
