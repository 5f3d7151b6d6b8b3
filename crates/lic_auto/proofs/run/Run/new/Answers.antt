use Rattle.std.proofs.Common.{◌≡◌, sym, subst, arith}
use Rattle.std.specs.List.{Contains}
use Rattle.std.proofs.lemmas.Result.{IfOk-weaker}
use Rattle.lic_auto.specs.Picked.{AreAll}
use Rattle.lic_auto.specs.Runs.{numbers_of}
use Rattle.lic_auto.proofs.run.Run.new.Goals as goal

pub returns-clause-all : goal.returns-clause-all
returns-clause-all c =
    let numbers = c.in_ok-numbers.numbers.items in
    IfOk-weaker c.over.result (λ r. numbers_of r ≡ numbers) (λ r. AreAll c.args.set.now (numbers_of r))
    (λ r are k inside. subst (λ xs. Contains xs k) (sym are) (c.in_ok-numbers.ensures.all k (omega (arith, c.len.ensures, inside)))) c.over.ensures.numbers
