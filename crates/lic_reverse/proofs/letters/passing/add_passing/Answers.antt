use Rattle.std.proofs.Common.{◌≤◌, [], ◌∷◌, ◌++◌, arith, ap, sym, ◌∙◌}
use Rattle.std.proofs.lemmas.List.{append-nil}
use Rattle.lic_ere.specs.Trees.{tree_of}
use Rattle.lic_reverse.specs.Passing.{IsPassing, passes_of}
use Rattle.lic_view.proofs.ViewSpans.{within-one}
use Rattle.lic_view.proofs.Numbers.{below-all, below-first, below-more}
use Rattle.lic_view.proofs.SingleLemmas.{single}
use Rattle.lic_reverse.proofs.PassingLemmas.{back-no_passing, back-passing}
use Rattle.lic_reverse.proofs.letters.passing.add_passing.Goals as goal
use Rattle.lic_reverse.proofs.letters.passing.add_passing.Goals.{in-Some+in_ok-push, in_default}

pub loop-number-init : goal.loop-number-init
loop-number-init c = below-first c.args.keep c.args.view.now (IsPassing (passes_of (tree_of c.args.ere.now))) c.args.span c.args.found.now.items

pub passing_before-requires : goal.passing_before-requires
passing_before-requires c =
    let span = c.args.span in
    let from : span.low ≤ c.loop-number.number = c.loop-number.auto.number in
    within-one c.args.view.now span c.loop-number.number c.requires from (omega (arith, c.loop-number-test.true, c.end_of-number-end.ensures))

pub loop-number-preserved : goal.loop-number-preserved
loop-number-preserved c =
    let tokens = c.args.view.now in
    let passes = passes_of (tree_of c.args.ere.now) in
    let span = c.args.span in
    let number = c.loop-number.number in
    let from : span.low ≤ number = c.loop-number.auto.number in
    let to : number ≤ span.high = omega (arith, c.loop-number-test.true, c.end_of-number-end.ensures) in
    elim c.match-passing_before.branch [
      | in-Some+in_ok-push w ↦
          below-more c.args.keep tokens (IsPassing passes) span number c.args.found.now.items c.loop-number.found.items c.match-passing_before.found.items (single w.in-Some.place span.last ∷ []) from
          c.loop-number.invariant
          (back-passing c.args.keep tokens passes span number w.in-Some.place c.tokens_have_texts.ensures c.requires from to w.in-Some.ensures)
          (ap (λ v. v.items) w.found-is ∙ (w.in_ok-push.ensures.items ∙ ap (λ s. c.loop-number.found.items ++ (s ∷ [])) w.single.ensures))
      | in_default w ↦
          below-more c.args.keep tokens (IsPassing passes) span number c.args.found.now.items c.loop-number.found.items c.match-passing_before.found.items [] from
          c.loop-number.invariant
          (back-no_passing c.args.keep tokens passes span number w.in_default.ensures)
          (ap (λ v. v.items) w.found-is ∙ sym (append-nil c.loop-number.found.items))
    ]

pub returns : goal.returns
returns c =
    below-all c.args.keep c.args.view.now (IsPassing (passes_of (tree_of c.args.ere.now))) c.args.span c.loop-number.number c.args.found.now.items c.loop-number.found.items
    (omega (arith, c.loop-number.auto, c.loop-number-test.false, c.end_of-number-end.ensures, c.requires.ordered 0 c.args.span (omega arith)))
    c.loop-number.invariant
