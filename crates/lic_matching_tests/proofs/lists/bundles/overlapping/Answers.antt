use Rattle.std.proofs.Common.{◌+◌, ◌<◌, List, sym, subst, arith}
use Rattle.std.proofs.lemmas.List.Elements.{All-push, All-weaker}
use Rattle.std.proofs.lemmas.List.Quantifiers.{all_pairs_push}
use Rattle.std.specs.List.{All}
use Rattle.lic_set.specs.declared.triple.Triple.{Triple}
use Rattle.lic_bundles.specs.declared.bundle.Bundle.{Bundle}
use Rattle.lic_bundles.specs.Bundles.{AreApart, IsOf}
use Rattle.lic_matching_tests.proofs.lists.bundles.overlapping.Goals as goal

of_another : (b c : Bundle) → b.template < c.template → (t : Triple) → IsOf b t → ¬ (IsOf c t)
of_another b c less t of also = omega (arith, of.template, also.template)

pub loop-number-preserved : goal.loop-number-preserved
loop-number-preserved c =
    let number = c.loop-number.number in
    let old : List Bundle = c.loop-number.all.items in
    let one : Bundle = record { from = number; to = number + 9; last = number + 1000; template = number } in
    let earlier : All (λ b. b.template < number) old = c.loop-number.invariant.1 in
    let less : All (λ b. b.template < number + 1) old = All-weaker (λ b. b.template < number) (λ b. b.template < number + 1) (λ b h. omega arith) old earlier in (
      subst AreApart (sym c.in_ok-push.ensures.items)
          (all_pairs_push (λ b d. (t : Triple) → IsOf b t → ¬ (IsOf d t)) old one c.loop-number.invariant.0 (λ k d within. of_another _ one (earlier k d within))),
      subst (All (λ b. b.template < number + 1)) (sym c.in_ok-push.ensures.items) (All-push (λ b. b.template < number + 1) old one less (omega arith)),
    )
