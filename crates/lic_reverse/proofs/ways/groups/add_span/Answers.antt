-- The place of one number more, and then of all.
use Rattle.std.proofs.Common.{[], ◌∷◌, ◌+◌, ◌≤◌, arith, subst, sym}
use Rattle.lic_reverse.specs.LetterGroups.{AddsPlaces, IsPieceOf}
use Rattle.lic_view.proofs.Numbers.{Below}
use Rattle.lic_view.proofs.ViewSpans.{within-one}
use Rattle.lic_reverse.proofs.LetterGroupLemmas.{adds-none, number-reaches, span-all, span-more, span-skip}
use Rattle.lic_reverse.proofs.ways.groups.add_span.Goals as goal
use Rattle.lic_reverse.proofs.ways.groups.add_span.Goals.{in-Some+in_ok-add_place, in_default}

pub loop-number-init : goal.loop-number-init
loop-number-init c =
    adds-none c.args.view.now (IsPieceOf (c.args.span ∷ [])) (Below c.args.view.now c.args.span c.args.span.low) c.args.lists.now.items
    (λ q last e. omega (arith, e.1, e.2))

pub place_of-requires : goal.place_of-requires
place_of-requires c =
    within-one c.args.view.now c.args.span c.loop-number.number c.requires.placed c.loop-number.auto.number (omega (arith, c.loop-number-test.true, c.end_of-number-end.ensures))

pub add_place-requires-clause-reaches : goal.add_place-requires-clause-reaches
add_place-requires-clause-reaches c = number-reaches c.args.view.now c.args.span c.loop-number.number c.in-Some.place c.in-Some.ensures

pub loop-number-preserved : goal.loop-number-preserved
loop-number-preserved c =
    let tokens = c.args.view.now in
    let span = c.args.span in
    let number = c.loop-number.number in
    let from : span.low ≤ number = c.loop-number.auto.number in
    let to : number ≤ span.high = omega (arith, c.loop-number-test.true, c.end_of-number-end.ensures) in
    elim c.match-place_of.branch [
      | in-Some+in_ok-add_place w ↦
          subst (λ v. AddsPlaces tokens (IsPieceOf (span ∷ [])) (Below tokens span (number + 1)) c.args.lists.now.items v.items) (sym w.lists-is)
          (span-more tokens span number c.args.lists.now.items c.loop-number.lists.items from to c.loop-number.invariant w.in-Some.place w.add_place.new.lists.items
          w.in-Some.ensures w.in_ok-add_place.ensures)
      | in_default w ↦
          subst (λ v. AddsPlaces tokens (IsPieceOf (span ∷ [])) (Below tokens span (number + 1)) c.args.lists.now.items v.items) (sym w.lists-is)
          (span-skip tokens span number c.args.lists.now.items c.loop-number.lists.items from to c.loop-number.invariant w.in_default.ensures)
    ]

pub returns : goal.returns
returns c =
    span-all c.args.view.now c.args.span c.loop-number.number c.args.lists.now.items c.loop-number.lists.items
    (omega (arith, c.loop-number.auto, c.loop-number-test.false, c.end_of-number-end.ensures, c.requires.placed.ordered 0 c.args.span (omega arith)))
    c.loop-number.invariant
