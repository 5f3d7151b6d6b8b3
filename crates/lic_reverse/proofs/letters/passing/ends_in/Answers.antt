-- One place more, and then all of the stretch.
use Rattle.std.proofs.Common.{◌+◌, ap, arith, sym, subst, ◌∙◌}
use Rattle.lic_ere.specs.Trees.{tree_of}
use Rattle.lic_reverse.specs.Passing.{passes_of}
use Rattle.lic_reverse.specs.PassingPlaces.{LeadsToSome}
use Rattle.lic_reverse.proofs.PassingLemmas.{AreThoseBefore, before-all, before-more, before-none, before-skip}
use Rattle.lic_reverse.proofs.EreLemmas.{option-none, option-some}
use Rattle.lic_reverse.proofs.letters.passing.ends_in.Goals as goal
use Rattle.lic_reverse.proofs.letters.passing.ends_in.Goals.{then-is_some+in_ok-push, else-is_some}

pub loop-place-init : goal.loop-place-init
loop-place-init c = before-none (LeadsToSome c.args.view.now (passes_of (tree_of c.args.ere.now))) c.args.stretch.now.low c.new-ends.result.items c.new-ends.ensures.items

pub loop-place-preserved : goal.loop-place-preserved
loop-place-preserved c =
    let tokens = c.args.view.now in
    let passes = passes_of (tree_of c.args.ere.now) in
    let low = c.args.stretch.now.low in
    let place = c.loop-place.place in
    elim c.if-is_some.branch [
      | then-is_some+in_ok-push w ↦
          before-more (LeadsToSome tokens passes) low place c.loop-place.ends.items c.if-is_some.ends.items c.loop-place.auto.place c.loop-place.invariant
          (option-some _ _ c.passing_before.result (sym c.is_some.ensures ∙ w.if-is_some.true) c.passing_before.ensures)
          (ap (λ v. v.items) w.ends-is ∙ w.in_ok-push.ensures.items)
      | else-is_some w ↦
          let none = option-none _ _ c.passing_before.result (sym c.is_some.ensures ∙ w.if-is_some.false) c.passing_before.ensures in
          subst (λ v. AreThoseBefore (LeadsToSome tokens passes) low (place + 1) v.items) (sym w.ends-is)
          (before-skip (LeadsToSome tokens passes) low place c.loop-place.ends.items c.loop-place.invariant
          (λ meant. none meant.0 meant.1.place meant.1.letter meant.1.is meant.1.dark meant.1.passes_it meant.1.occurs))
    ]

pub returns-clause-rising : goal.returns-clause-rising
returns-clause-rising c = c.loop-place.invariant.rising

pub returns-clause-exact : goal.returns-clause-exact
returns-clause-exact c =
    before-all (LeadsToSome c.args.view.now (passes_of (tree_of c.args.ere.now))) c.args.stretch.now.low c.args.stretch.now.high c.loop-place.place c.loop-place.ends.items
    c.loop-place.invariant (omega (arith, c.loop-place-test.false, c.loop-place.auto.place-end (omega (arith, c.requires.order))))
