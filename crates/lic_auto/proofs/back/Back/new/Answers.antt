use Rattle.std.proofs.Common.{◌≡◌, sym, subst, arith}
use Rattle.std.specs.List.{Contains}
use Rattle.std.proofs.lemmas.Result.{IfOk-weaker}
use Rattle.lic_auto.specs.Picked.{AreAll}
use Rattle.lic_auto.specs.Backs.{numbers_of_back}
use Rattle.lic_auto.proofs.back.Back.new.Goals as goal

pub returns-clause-all : goal.returns-clause-all
returns-clause-all c =
    let numbers = c.in_ok-numbers.numbers.items in
    IfOk-weaker c.over.result (λ r. numbers_of_back r ≡ numbers) (λ r. AreAll c.args.set.now (numbers_of_back r))
    (λ r are k inside. subst (λ xs. Contains xs k) (sym are) (c.in_ok-numbers.ensures.all k (omega (arith, c.len.ensures, inside)))) c.over.ensures.numbers
