use Rattle.std.proofs.Common.{◌≡◌, arith, ap, ◌-◌, ◌%◌, ◌/◌, ◌∙◌, length}
use Rattle.std.proofs.lemmas.List.{length-set}
use Rattle.std.proofs.lemmas.Nat.{one_shl}
use Rattle.lic_rows.proofs.Shifts.{is_cut, cut_is}
use Rattle.lic_rows.proofs.words.clear_from.Goals as goal

pub returns-after-rest : goal.returns-after-rest
returns-after-rest c =
    let same : length c.rest.row ≡ length c.args.row.now = c.rest.auto.row ∙ length-set c.args.row.now (c.args.limit / 64) _ in
    is_cut c.args.row.now c.rest.row c.args.limit
    (cut_is c.args.row.now c.rest.row c.args.limit _ c.if-first-row.true (ap (λ x. x - 1) (one_shl (c.args.limit % 64) 64 (omega arith)))
    same c.rest.invariant.0 (λ j after inside. c.rest.invariant.1 j after (omega (arith, c.rest-test.false, c.rest.auto.row, same, inside))))
