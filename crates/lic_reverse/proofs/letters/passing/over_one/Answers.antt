use Rattle.std.proofs.Common.{◌++◌, subst, refl, ap, ◌∙◌}
use Rattle.lic_ere.specs.Trees.{tree_of}
use Rattle.lic_reverse.specs.Passing.{IsPassing, passes_of}
use Rattle.lic_view.specs.Backward.{IsBack}
use Rattle.lic_reverse.specs.Tidily.{a_blank, a_letter, nothing, spans_of}
use Rattle.lic_reverse.proofs.TidyPassing.{IsPassingBlank, tidy-passing}
use Rattle.lic_reverse.proofs.letters.passing.over_one.Goals as goal

pub over_passing-requires : goal.over_passing-requires
over_passing-requires c = rw c.deref.ensures.value (c.requires nothing)

pub over_passing-requires-2 : goal.over_passing-requires-2
over_passing-requires-2 c = rw c.deref-2.ensures.value (c.requires a_letter)

pub over_passing-requires-3 : goal.over_passing-requires-3
over_passing-requires-3 c = rw c.deref-3.ensures.value (c.requires a_blank)

pub over_passing_blank-requires : goal.over_passing_blank-requires
over_passing_blank-requires c = rw c.deref-4.ensures.value (c.requires a_letter)

pub returns : goal.returns
returns c =
    let tokens = c.args.view.now in
    let passes = passes_of (tree_of c.args.ere.now) in
    tidy-passing c.args.keep tokens passes (spans_of c.args.ways.now) c.in_ok-letter.letter.items c.in_ok-more.more.items c.in_ok-others.others.items
    c.in_ok-over_passing_blank.field-0.items
    (subst (λ x. IsBack c.args.keep tokens (IsPassing passes) x c.in_ok-letter.letter.items) c.deref.ensures.value c.in_ok-letter.ensures)
    (subst (λ x. IsBack c.args.keep tokens (IsPassing passes) x c.in_ok-more.more.items) c.deref-2.ensures.value c.in_ok-more.ensures)
    (subst (λ x. IsBack c.args.keep tokens (IsPassing passes) x c.in_ok-others.others.items) c.deref-3.ensures.value c.in_ok-others.ensures)
    (subst (λ x. IsBack c.args.keep tokens (IsPassingBlank passes) x c.in_ok-over_passing_blank.field-0.items) c.deref-4.ensures.value c.in_ok-over_passing_blank.ensures)
    _ c.new.ensures.items (c.in_ok-append-2.ensures.items ∙ ap (λ x. x ++ c.in_ok-others.others.items) c.in_ok-append.ensures.items) refl
