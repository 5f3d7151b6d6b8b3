use Rattle.std.proofs.Common.{◌≡◌, ◌∷◌, ◌++◌, [], Some, get_or, take, sym, ap, ◌∙◌, subst}
use Rattle.std.specs.List.{slice_get}
use Rattle.std.proofs.lemmas.List.{map-append, take_more}
use Rattle.lic_set.specs.Sets.{Known}
use Rattle.lic_auto.specs.TemplateBacks.{AreReversed, HasTakenBackward, HaveTakenBackward, IsReversed, back_numbers}
use Rattle.lic_auto.specs.declared.template_backs.TemplateBack.{TemplateBack}
use Rattle.lic_auto.proofs.Sought.{AreReversed-push, HaveTakenBackward-push}
use Rattle.lic_auto.proofs.back.Back.over.Goals as goal

pub loop-number-preserved : goal.loop-number-preserved
loop-number-preserved c =
    let set = c.args.set.now in
    let backs = c.loop-number.backs.items in
    let matcher = c.in_ok-matcher.matcher in
    let i = c.loop-number.number-index in
    let numbers = c.deref-number-items.result.now in
    let grown = c.in_ok-push.ensures.items in
    let is : matcher.number ≡ get_or numbers i 0 = c.in_ok-matcher.ensures.number in
    record {
      numbers = ap back_numbers grown ∙ map-append (λ (one : TemplateBack). one.number) backs (matcher ∷ [])
          ∙ ap (λ xs. xs ++ matcher.number ∷ []) c.loop-number.invariant.numbers ∙ ap (λ n. take i numbers ++ n ∷ []) is ∙ sym (take_more numbers i 0 c.loop-number-test.true);
      mirrors = subst (AreReversed set) (sym grown)
          (AreReversed-push set backs matcher c.loop-number.invariant.mirrors
          (subst (λ n. (known : Known) → slice_get set n ≡ Some known → IsReversed matcher known) (sym is) c.in_ok-matcher.ensures.reversed));
      sought = subst (λ xs. HaveTakenBackward set xs []) (sym grown)
          (HaveTakenBackward-push set backs matcher [] c.loop-number.invariant.sought
          (subst (λ n. (known : Known) → slice_get set n ≡ Some known → HasTakenBackward matcher known []) (sym is) c.in_ok-matcher.ensures.sought));
    }
