use Rattle.std.proofs.Common.{◌≡◌, Some, get_or, refl, sym, ◌∙◌, arith}
use Rattle.std.specs.List.{slice_get}
use Rattle.std.proofs.lemmas.Option.{slice_get-get_or}
use Rattle.lic_auto.specs.TemplateRuns.{BeginsAmong, run_numbers}
use Rattle.lic_auto.specs.declared.template_runs.TemplateRun.{TemplateRun}
use Rattle.lic_auto.proofs.Changing.{Changed-more, has_number}
use Rattle.lic_auto.proofs.template_runs.begin_all.Goals as goal

pub loop-run-preserved : goal.loop-run-preserved
loop-run-preserved c =
    let i = c.loop-run.run-index in
    let old = c.args.runs.now in
    let runs = c.loop-run.runs in
    let run = get_or runs i c.run-item.result in
    let here : slice_get runs i ≡ Some run = slice_get-get_or runs i c.run-item.result (omega (arith, c.loop-run-test.true)) in
    let was : slice_get old i ≡ Some run = sym (c.loop-run.invariant.others i (omega arith)) ∙ here in
    let begins : BeginsAmong (run_numbers old) run c.begin.new.self = record {
      number = c.begin.ensures.number;
      tree = c.begin.ensures.tree;
      entered = λ e among over. c.begin.ensures.entered e refl over;
      left_out = λ gone. absurd (gone (has_number (λ (one : TemplateRun). one.number) old i run was));
    } in
    Changed-more (BeginsAmong (run_numbers old)) i old runs run c.begin.new.self c.loop-run.invariant here begins
