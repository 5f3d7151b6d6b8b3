use Rattle.std.proofs.Common.{get_or, refl, arith}
use Rattle.std.specs.Str.{chars}
use Rattle.std.proofs.lemmas.Option.{slice_get-get_or}
use Rattle.lic_auto.specs.TemplateBacks.{TakesReversed}
use Rattle.lic_auto.specs.declared.template_backs.TemplateBack.{TemplateBack}
use Rattle.lic_auto.proofs.Changing.{Changed-more}
use Rattle.lic_auto.proofs.template_backs.take_reversed.Goals as goal

pub loop-one-preserved : goal.loop-one-preserved
loop-one-preserved c =
    let i = c.loop-one.one-index in
    let token = chars c.args.token.now in
    let backs = c.loop-one.backs in
    let one : TemplateBack = get_or backs i c.one-item.result in
    let here = slice_get-get_or backs i c.one-item.result (omega (arith, c.loop-one-test.true)) in
    let takes : TakesReversed token one (record one { matcher = c.push_reversed.new.self }) =
    record { number = refl; tree = c.push_reversed.ensures.tree; seeks = c.push_reversed.ensures.taken } in
    Changed-more (TakesReversed token) i c.args.backs.now backs one _ c.loop-one.invariant here takes
