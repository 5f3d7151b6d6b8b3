use Rattle.std.proofs.Common.{◌≡◌, ◌==◌, Bool, true, false, Some, get_or, refl, ◌∙◌, arith}
use Rattle.std.specs.List.{slice_get}
use Rattle.std.proofs.lemmas.Bool.Decides.{Decides-eqb}
use Rattle.std.proofs.lemmas.List.Elements.{at_from_Contains, contains_decides, Contains-from_at}
use Rattle.std.proofs.lemmas.Option.{slice_get-get_or}
use Rattle.lic_auto.specs.TemplateRuns.{BeginsAmong}
use Rattle.lic_auto.proofs.Changing.{Changed-more}
use Rattle.lic_auto.proofs.template_runs.begin_among.Goals as goal

is_false : (b : Bool) → ¬ (b ≡ true) → b ≡ false
is_false true h = absurd (h refl)
is_false false h = refl

pub loop-run-preserved : goal.loop-run-preserved
loop-run-preserved c =
    let i = c.loop-run.run-index in
    let numbers = c.args.numbers.now in
    let runs = c.loop-run.runs in
    let run = get_or runs i c.run-item.result in
    let here : slice_get runs i ≡ Some run = slice_get-get_or runs i c.run-item.result (omega (arith, c.loop-run-test.true)) in
    let decides = contains_decides (λ x y. x == y) Decides-eqb numbers run.number c.contains-is_entered.result c.contains-is_entered.ensures.cases in
    let begins : BeginsAmong numbers run c.begin.new.self = record {
      number = c.begin.ensures.number;
      tree = c.begin.ensures.tree;
      entered = λ e among over. c.begin.ensures.entered e (decides.1 (at_from_Contains numbers run.number among)) over;
      left_out = λ gone. c.begin.ensures.live
          ∙ is_false c.contains-is_entered.result (λ h. gone (Contains-from_at numbers run.number (decides.0 h)));
    } in
    Changed-more (BeginsAmong numbers) i c.args.runs.now runs run c.begin.new.self c.loop-run.invariant here begins
