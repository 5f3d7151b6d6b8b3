use Rattle.std.proofs.Common.{◌≡◌, ◌∷◌, ◌++◌, [], Some, get_or, take, sym, ap, ◌∙◌, subst}
use Rattle.std.proofs.lemmas.List.{map-append, take_more}
use Rattle.std.specs.List.{slice_get}
use Rattle.lic_set.specs.Sets.{Known, words_of}
use Rattle.lic_auto.specs.TemplateRuns.{AreFollowing, AreOver, Follows, IsOver, run_numbers}
use Rattle.lic_auto.specs.declared.template_runs.TemplateRun.{TemplateRun}
use Rattle.lic_auto.proofs.Following.{AreOver-push, AreFollowing-push}
use Rattle.lic_auto.proofs.run.Run.over.Goals as goal

pub loop-number-preserved : goal.loop-number-preserved
loop-number-preserved c =
    let set = c.args.set.now in
    let runs = c.loop-number.runs.items in
    let run = c.in_ok-run.run' in
    let i = c.loop-number.number-index in
    let numbers = c.deref-number-items.result.now in
    let grown = c.in_ok-push.ensures.items in
    let is : run.number ≡ get_or numbers i 0 = c.in_ok-run.ensures.number in
    record {
      numbers = ap run_numbers grown ∙ map-append (λ (one : TemplateRun). one.number) runs (run ∷ [])
          ∙ ap (λ xs. xs ++ run.number ∷ []) c.loop-number.invariant.numbers ∙ ap (λ n. take i numbers ++ n ∷ []) is ∙ sym (take_more numbers i 0 c.loop-number-test.true);
      over = subst (AreOver set) (sym grown)
          (AreOver-push set runs run c.loop-number.invariant.over
          (subst (λ n. (known : Known) → slice_get set n ≡ Some known → IsOver run (words_of known)) (sym is) c.in_ok-run.ensures.over));
      follow = subst (λ rs. AreFollowing set rs (run_numbers rs) []) (sym grown)
          (AreFollowing-push set runs run [] c.loop-number.invariant.follow
          (subst (λ n. (known : Known) → slice_get set n ≡ Some known → Follows run (words_of known) []) (sym is) c.in_ok-run.ensures.follows));
    }
