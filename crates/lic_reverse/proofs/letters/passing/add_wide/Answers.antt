use Rattle.std.proofs.Common.{◌≤◌, [], ◌∷◌, ◌++◌, arith, ap, sym, ◌∙◌}
use Rattle.std.proofs.lemmas.List.{append-nil}
use Rattle.lic_ere.specs.Trees.{tree_of}
use Rattle.lic_literals.proofs.Rising.{le_later}
use Rattle.lic_reverse.specs.Passing.{IsPassing, passes_of}
use Rattle.lic_reverse.specs.PassingPlaces.{LeadsToSome}
use Rattle.lic_reverse.proofs.PassingLemmas.{passing-meant}
use Rattle.lic_view.proofs.SingleLemmas.{single}
use Rattle.lic_view.proofs.ViewSpans.{within-one}
use Rattle.lic_view.proofs.WideLemmas.{listed-all, listed-first, listed-more}
use Rattle.lic_reverse.proofs.letters.passing.add_wide.Goals as goal
use Rattle.lic_reverse.proofs.letters.passing.add_wide.Goals.{in-Some+in_ok-push, in_default}

pub loop-number-init : goal.loop-number-init
loop-number-init c =
    listed-first c.args.keep c.args.view.now (IsPassing (passes_of (tree_of c.args.ere.now))) c.args.span c.args.ends.now c.first_from-first.result c.args.found.now.items c.requires.kind
    (λ k low. omega (arith, c.first_from-first.ensures.before k low, c.saturating_sub.ensures))

pub passing_in-requires-clause-within : goal.passing_in-requires-clause-within
passing_in-requires-clause-within c =
    let order : c.args.span.low ≤ c.args.span.high = c.requires.placed.ordered 0 c.args.span (omega arith) in
    omega (arith, c.if-span-end.false, within-one c.args.view.now c.args.span c.args.span.high c.requires.placed order (omega arith))

pub loop-number-preserved : goal.loop-number-preserved
loop-number-preserved c =
    let tokens = c.args.view.now in
    let passes = passes_of (tree_of c.args.ere.now) in
    let span = c.args.span in
    let places = c.args.ends.now in
    let number = c.loop-number.number in
    elim c.match-passing_in.branch [
      | in-Some+in_ok-push w ↦
          listed-more c.args.keep tokens (IsPassing passes) span places number c.args.found.now.items c.loop-number.found.items c.match-passing_in.found.items
          (single w.in-Some.place span.last ∷ []) c.loop-number.invariant (w.in-Some.ensures c.args.keep)
          (ap (λ v. v.items) w.found-is ∙ (w.in_ok-push.ensures.items ∙ ap (λ s. c.loop-number.found.items ++ (s ∷ [])) w.single.ensures))
      | in_default w ↦
          listed-more c.args.keep tokens (IsPassing passes) span places number c.args.found.now.items c.loop-number.found.items c.match-passing_in.found.items
          [] c.loop-number.invariant (w.in_default.ensures c.args.keep)
          (ap (λ v. v.items) w.found-is ∙ sym (append-nil c.loop-number.found.items))
    ]

-- those from one that lies after the span on lie after it
pub returns-then-span-end : goal.returns-then-span-end
returns-then-span-end c =
    let passes = passes_of (tree_of c.args.ere.now) in
    let places = c.args.ends.now in
    let number = c.loop-number.number in
    listed-all c.args.keep c.args.view.now (IsPassing passes) (LeadsToSome c.args.view.now passes) c.args.span places number
    c.args.found.now.items c.loop-number.found.items c.requires.kind c.requires.ends
    (λ k from low. omega (arith, c.if-span-end.true, le_later places c.requires.ends.rising number k from low))
    (passing-meant c.args.view.now passes c.args.span)
    c.loop-number.invariant

pub returns : goal.returns
returns c =
    let passes = passes_of (tree_of c.args.ere.now) in
    listed-all c.args.keep c.args.view.now (IsPassing passes) (LeadsToSome c.args.view.now passes) c.args.span c.args.ends.now c.loop-number.number
    c.args.found.now.items c.loop-number.found.items c.requires.kind c.requires.ends
    (λ k from low. absurd (omega (arith, c.loop-number-test.false)))
    (passing-meant c.args.view.now passes c.args.span)
    c.loop-number.invariant
