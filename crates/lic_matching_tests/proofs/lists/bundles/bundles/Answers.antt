use Rattle.std.proofs.Common.{sym, subst}
use Rattle.std.proofs.lemmas.List.Quantifiers.{all_pairs_push}
use Rattle.lic_set.specs.declared.triple.Triple.{Triple}
use Rattle.lic_bundles.specs.Bundles.{AreApart, IsOf}
use Rattle.lic_matching_tests.proofs.lists.bundles.bundles.Goals as goal

pub loop-one-preserved : goal.loop-one-preserved
loop-one-preserved c =
    subst AreApart (sym c.in_ok-push.ensures.items)
    (all_pairs_push (λ b d. (t : Triple) → IsOf b t → ¬ (IsOf d t)) c.loop-one.all.items _ c.loop-one.invariant
    (rw c.deref.ensures.value at (c.is_apart_from_all.ensures c.if-not-is_apart_from_all.false)))
