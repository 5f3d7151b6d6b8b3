use Rattle.std.proofs.Common.{◌≤◌, List, Ok, sym, ap, ◌∙◌, length, drop, arith}
use Rattle.lic_ere.specs.Located.{Located}
use Rattle.lic_elements.specs.Pieces.{characters}
use Rattle.lic_elements.specs.Rules.{field_or_none}
use Rattle.lic_elements.specs.Views.{values_of}
use Rattle.lic_elements.proofs.FaultLemmas.{Gives-err}
use Rattle.lic_elements.proofs.FieldLemmas.{read-shorter, trim_start-shorter, fields-end, fields_turn, fields_fail, fields-refused, fields-open}
use Rattle.lic_elements.proofs.rule.fields.fields.Goals as goal

pub returns-then-begins_with_two : goal.returns-then-begins_with_two
returns-then-begins_with_two c =
    let values = values_of c.loop-after.values in
    let rest = characters c.loop-after.rest in
    sym c.loop-after.invariant
    ∙ fields-end c.args.rule c.args.tag values rest _ _ c.in-Some.ensures.some (sym c.begins_with_two.ensures ∙ c.if-begins_with_two.true)
    ∙ ap (λ (l : List Located). Ok (values, l)) (ap (drop 2) c.in-Some.ensures.some ∙ sym c.without_first.ensures)

pub returns-then-not-begins_with : goal.returns-then-not-begins_with
returns-then-not-begins_with c =
    sym c.loop-after.invariant
    ∙ fields-refused c.args.rule c.args.tag
    (values_of c.loop-after.values) (characters c.loop-after.rest) _ _ c.in-Some.ensures.some
    (sym c.begins_with_two.ensures ∙ c.if-begins_with_two.false)
    (sym c.begins_with.ensures ∙ c.if-not-begins_with.true)

pub returns-in_err-rest : goal.returns-in_err-rest
returns-in_err-rest c =
    Gives-err _ _ _ _ _ c.from_residual.ensures.1
    (λ e is. sym c.loop-after.invariant
    ∙ fields_fail c.args.rule c.args.tag
    (values_of c.loop-after.values) _ _ (characters c.loop-after.rest) (characters c.trim_start.result) e c.in-Some.ensures.some c.trim_start.ensures (sym c.begins_with_two.ensures ∙ c.if-begins_with_two.false) (sym c.begins_with.ensures ∙ c.if-not-begins_with.false) is)
    c.in_err-rest.ensures

pub loop-after-preserved : goal.loop-after-preserved
loop-after-preserved c =
    fields_turn c.args.rule c.args.tag
    (values_of c.loop-after.values) _ _ (characters c.loop-after.rest) (characters c.trim_start.result) _ _ _ c.in-Some.ensures.some c.trim_start.ensures (sym c.begins_with_two.ensures ∙ c.if-begins_with_two.false) (sym c.begins_with.ensures ∙ c.if-not-begins_with.false) c.in_ok-rest.ensures c.loop-after.invariant

pub loop-after-smaller : goal.loop-after-smaller
loop-after-smaller c =
    let front = characters c.trim_start.result in
    let one : length (characters c.in_ok-rest.rest) ≤ length front =
    read-shorter front (field_or_none c.args.rule c.args.tag
    (values_of c.loop-after.values) front) _ _ c.in_ok-rest.ensures in
    let two : length front ≤ length (characters c.in-Some.after) = trim_start-shorter _ _ c.trim_start.ensures in
    omega (arith, one, two, ap length c.in-Some.ensures.some)

pub returns : goal.returns
returns c = sym c.loop-after.invariant ∙ fields-open c.args.rule c.args.tag (values_of c.loop-after.values) (characters c.loop-after.rest) c.in_default.ensures.none
