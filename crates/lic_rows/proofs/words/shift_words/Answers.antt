use Rattle.std.proofs.Common.{◌≡◌, arith, ap, sym, ◌∙◌, ◌*◌, ◌%◌, ◌^◌, length}
use Rattle.std.proofs.lemmas.List.{get_or_past}
use Rattle.lic_rows.proofs.words.shift_words.Goals as goal

pub returns-else-at-eq1-clause-first : goal.returns-else-at-eq1-clause-first
returns-else-at-eq1-clause-first c =
    let at : c.rest.at ≡ 0 = omega (arith, c.if-at-eq1.false, c.rest-test.false) in
    let none : length c.rest.row ≡ 0 = c.rest.invariant.empty at in
    get_or_past c.rest.row 0 0 (omega arith)
    ∙ ap (λ x. x * 2 ^ 1 % 2 ^ 64)
    (sym (get_or_past c.args.row.now 0 0 (omega (arith, c.rest.auto.row, c.lanes.auto.row))))
