use Rattle.std.proofs.Common.{◌≡◌, ◌/◌, false, arith, ⊎_elim}
use Rattle.std.proofs.lemmas.Bool.{cases_lt}
use Rattle.std.proofs.lemmas.List.{get_or_past}
use Rattle.lic_rows.specs.Bits.{has}
use Rattle.lic_rows.proofs.Sets.{unset_in_zero}
use Rattle.lic_rows.proofs.Finds.{some_fresh, none_fresh}
use Rattle.lic_rows.proofs.words.has_fresh.Goals as goal

pub loop-at-init : goal.loop-at-init
loop-at-init c = λ b low set. absurd (omega (arith, low))

pub returns-then-fresh-ne0-clause-some : goal.returns-then-fresh-ne0-clause-some
returns-then-fresh-ne0-clause-some c = λ is.
    some_fresh c.args.row.now c.args.other.now c.loop-at.at c.fresh.result c.fresh.type_inv c.fresh.ensures (omega (arith, c.if-fresh-ne0.true))

pub loop-at-preserved : goal.loop-at-preserved
loop-at-preserved c = λ b low set.
    ⊎_elim (λ before. c.loop-at.invariant b before set)
    (λ from. none_fresh c.args.row.now c.args.other.now c.loop-at.at c.fresh.result c.fresh.type_inv c.fresh.ensures c.if-fresh-ne0.false b (omega (arith, low, from)) set)
    (cases_lt (b / 64) c.loop-at.at)

pub returns-clause-none : goal.returns-clause-none
returns-clause-none c = λ is b set.
    ⊎_elim (λ before. c.loop-at.invariant b before set)
    (λ past.
    let unset : has c.args.other.now b ≡ false = unset_in_zero c.args.other.now b (get_or_past c.args.other.now (b / 64) 0 (omega (arith, past, c.loop-at-test.false, c.requires))) in
    absurd cc)
    (cases_lt (b / 64) c.loop-at.at)
