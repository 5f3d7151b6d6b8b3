use Rattle.std.proofs.Common.{arith, refl}
use Rattle.lic_rows.proofs.Sets.{from_iff, set_above}
use Rattle.lic_rows.proofs.any_from.Goals as goal

pub returns-then-row-first-ne0 : goal.returns-then-row-first-ne0
returns-then-row-first-ne0 c = (λ _. set_above c.args.row.now c.args.m (grind (arith, c.if-row-first-ne0.true)) (c.type_inv.row _).fits, λ _. refl)

pub returns : goal.returns
returns c =
    from_iff c.args.row.now (λ k. (c.type_inv.row k).fits) c.are_zero_from.result c.args.m
    (grind (arith, c.if-row-first-ne0.false)) c.are_zero_from.ensures.zero c.are_zero_from.ensures.some
