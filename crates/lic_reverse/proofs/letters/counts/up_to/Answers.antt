use Rattle.std.proofs.Common.{Some, false, subst}
use Rattle.lic_view.specs.Backward.{IsBack}
use Rattle.lic_view.specs.PlaceSets.{Reaches}
use Rattle.lic_reverse.specs.Streaks.{IsStreakTo}
use Rattle.lic_view.proofs.Back.{back-same}
use Rattle.lic_reverse.proofs.CountWords.{Counted}
use Rattle.lic_reverse.proofs.EreLemmas.{ok-changed}
use Rattle.lic_reverse.proofs.StreakCounts.{passes-any, streak-counted}
use Rattle.lic_reverse.proofs.letters.counts.up_to.Goals as goal

pub returns : goal.returns
returns c =
    let tokens = c.args.view.now in
    let spans = c.args.spans.now in
    ok-changed _ _ c.streaks_before.result
    (λ found back. back-same c.args.keep tokens _ (Counted 1 (Some c.args.max)) (Reaches tokens spans) (Reaches tokens spans) found.items
    (streak-counted c.args.max) (λ q last. (λ h. h, λ h. h))
    (subst (λ passes. IsBack c.args.keep tokens (IsStreakTo passes c.args.max false) spans found.items) passes-any back))
    c.streaks_before.ensures
