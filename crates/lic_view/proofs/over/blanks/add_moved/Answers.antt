use Rattle.std.proofs.Common.{◌≤◌, [], ◌∷◌, ◌++◌, arith, ap, sym, subst, ◌∙◌}
use Rattle.std.proofs.lemmas.List.{append-nil}
use Rattle.lic_view.specs.PlaceSets.{LiesBefore}
use Rattle.lic_view.proofs.ViewSpans.{Holds-one, last-one}
use Rattle.lic_view.proofs.BlankLemmas.{IsBlank}
use Rattle.lic_view.proofs.Numbers.{below-all, below-first, below-more}
use Rattle.lic_view.proofs.SingleLemmas.{back-blank, back-no_blank, single}
use Rattle.lic_view.proofs.over.blanks.add_moved.Goals as goal
use Rattle.lic_view.proofs.over.blanks.add_moved.Goals.{in-Some+in_ok-push, in_default}

pub loop-number-init : goal.loop-number-init
loop-number-init c = below-first c.args.keep c.args.view.now IsBlank c.args.span c.args.found.now.items

pub loop-number-preserved : goal.loop-number-preserved
loop-number-preserved c =
    let tokens = c.args.view.now in
    let span = c.args.span in
    let number = c.loop-number.number in
    let from : span.low ≤ number = c.loop-number.auto.number in
    let to : number ≤ span.high = omega (arith, c.loop-number-test.true, c.end_of-number-end.ensures) in
    let front = subst (λ k. LiesBefore tokens k number span.last) c.requires.kind (c.requires.placed.front span.kind number span.last (Holds-one span number from to)) in
    elim c.match-over_blank.branch [
      | in-Some+in_ok-push w ↦
          below-more c.args.keep tokens IsBlank span number c.args.found.now.items c.loop-number.found.items c.match-over_blank.found.items (single w.in-Some.place span.last ∷ []) from
          c.loop-number.invariant
          (back-blank c.args.keep tokens span number w.in-Some.place (last-one tokens span c.requires.placed) c.requires.kind front w.in-Some.ensures)
          (ap (λ v. v.items) w.found-is ∙ (w.in_ok-push.ensures.items ∙ ap (λ s. c.loop-number.found.items ++ (s ∷ [])) w.single.ensures))
      | in_default w ↦
          below-more c.args.keep tokens IsBlank span number c.args.found.now.items c.loop-number.found.items c.match-over_blank.found.items [] from
          c.loop-number.invariant
          (back-no_blank c.args.keep tokens span number c.requires.kind w.in_default.ensures)
          (ap (λ v. v.items) w.found-is ∙ sym (append-nil c.loop-number.found.items))
    ]

pub returns : goal.returns
returns c =
    below-all c.args.keep c.args.view.now IsBlank c.args.span c.loop-number.number c.args.found.now.items c.loop-number.found.items
    (omega (arith, c.loop-number.auto, c.loop-number-test.false, c.end_of-number-end.ensures, c.requires.placed.ordered 0 c.args.span (omega arith)))
    c.loop-number.invariant
