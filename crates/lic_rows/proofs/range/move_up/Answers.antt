use Rattle.std.proofs.Common.{◌≡◌, suc, ◌/◌, ◌%◌, ◌∙◌, ap, arith}
use Rattle.std.specs.Prelude.{◌==◌}
use Rattle.lic_rows.proofs.Shifts.{up_here}
use Rattle.lic_rows.proofs.range.move_up.Goals as goal

pub returns-then-from-to-clause-rest : goal.returns-then-from-to-clause-rest
returns-then-from-to-clause-rest c = λ b low high.
    let word : b / 64 ≡ c.args.from / 64 = omega (arith, c.if-from-to.true, low, high) in
    let bit : suc b % 64 ≡ suc (b % 64) = omega (arith, c.if-from-to.true, low, high) in
    c.put_part.ensures.inside (suc b) (omega (arith, low)) high
    ∙ ap (λ x. x == 1) (c.with_bit.ensures.other (suc b % 64) (omega arith) (omega (arith, bit, low, word)))
    ∙ up_here c.args.row.now (c.args.from / 64) b word (omega (arith, bit))
