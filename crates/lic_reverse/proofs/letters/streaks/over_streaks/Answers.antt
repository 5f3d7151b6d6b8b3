use Rattle.std.proofs.Common.{◌++◌, true, false, subst, ap, ◌∙◌}
use Rattle.lic_ere.specs.Trees.{tree_of}
use Rattle.lic_reverse.specs.Passing.{passes_of}
use Rattle.lic_reverse.specs.Streaks.{IsStreakTo}
use Rattle.lic_view.specs.Backward.{IsBack}
use Rattle.lic_reverse.specs.Tidily.{a_blank, a_letter, nothing, spans_of}
use Rattle.lic_reverse.proofs.TidyStreaks.{tidy-streaks}
use Rattle.lic_reverse.proofs.letters.streaks.over_streaks.Goals as goal

pub streaks_before-requires : goal.streaks_before-requires
streaks_before-requires c = rw c.deref.ensures.value (c.requires nothing)

pub streaks_before-requires-2 : goal.streaks_before-requires-2
streaks_before-requires-2 c = rw c.deref-2.ensures.value (c.requires a_letter)

pub streaks_before-requires-3 : goal.streaks_before-requires-3
streaks_before-requires-3 c = rw c.deref-3.ensures.value (c.requires a_blank)

pub returns : goal.returns
returns c =
    let tokens = c.args.view.now in
    let passes = passes_of (tree_of c.args.ere.now) in
    let count = c.args.count in
    tidy-streaks c.args.keep tokens passes count (spans_of c.args.ways.now) c.in_ok-letter.letter.items c.in_ok-more.more.items c.in_ok-others.others.items
    (subst (λ x. IsBack c.args.keep tokens (IsStreakTo passes count false) x c.in_ok-letter.letter.items) c.deref.ensures.value c.in_ok-letter.ensures)
    (subst (λ x. IsBack c.args.keep tokens (IsStreakTo passes count true) x c.in_ok-more.more.items) c.deref-2.ensures.value c.in_ok-more.ensures)
    (subst (λ x. IsBack c.args.keep tokens (IsStreakTo passes count false) x c.in_ok-others.others.items) c.deref-3.ensures.value c.in_ok-others.ensures)
    _ c.new.ensures.items (c.in_ok-append-2.ensures.items ∙ ap (λ x. x ++ c.in_ok-others.others.items) c.in_ok-append.ensures.items) c.new-2.ensures.items
