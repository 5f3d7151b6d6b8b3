use Rattle.std.proofs.Common.{◌≡◌, ◌⊎◌, ◌≤◌, [], ◌∷◌, ◌++◌, false, inl, inr, arith, ap, refl, sym, subst, ◌∙◌}
use Rattle.std.proofs.lemmas.List.{append-nil}
use Rattle.lic_spans.specs.declared.span.SpanKind.TheVariants.{End, Place}
use Rattle.lic_places.specs.Places.{spelling_of}
use Rattle.lic_literals.specs.Ends.{EndsAt}
use Rattle.lic_view.specs.PlaceSets.{IsPlaceOf}
use Rattle.lic_view.proofs.ViewSpans.{Holds-one, front-to, last-one, within-one}
use Rattle.lic_view.proofs.LetterLemmas.{IsWordOf, back-letters, back-no_letters}
use Rattle.lic_view.proofs.Numbers.{At, below-all, below-first, below-more}
use Rattle.lic_view.proofs.SingleLemmas.{single}
use Rattle.lic_view.proofs.over.letters.add_single.Goals as goal
use Rattle.lic_view.proofs.over.letters.add_single.Goals.{then-ends_at+in_ok-push, else-ends_at}

pub loop-end-init : goal.loop-end-init
loop-end-init c = below-first c.args.keep c.args.view.now (IsWordOf c.args.letters.now) c.args.span c.args.found.now.items

pub ends_at-requires : goal.ends_at-requires
ends_at-requires c =
    let within = within-one c.args.view.now c.args.span c.loop-end.end c.requires.placed c.loop-end.auto.end
    (omega (arith, c.loop-end-test.true, c.end_of-end-end.ensures)) in
    rw c.bytes.ensures within

pub loop-end-preserved : goal.loop-end-preserved
loop-end-preserved c =
    let tokens = c.args.view.now in
    let letters = c.args.letters.now in
    let span = c.args.span in
    let end = c.loop-end.end in
    let from : span.low ≤ end = c.loop-end.auto.end in
    let to : end ≤ span.high = omega (arith, c.loop-end-test.true, c.end_of-end-end.ensures) in
    let front = c.requires.placed.front span.kind end span.last (Holds-one span end from to) in
    let one : (q l : _) → At tokens span end q l → (q ≡ end) × (l ≡ span.last) = λ q l e. (at_number c.requires.kind q e.1, e.0) in
    elim c.if-ends_at.branch [
      | then-ends_at+in_ok-push w ↦
          let ends = subst (λ x. EndsAt x letters end) c.bytes.ensures (c.ends_at.ensures.0 w.if-ends_at.true) in
          below-more c.args.keep tokens (IsWordOf letters) span end c.args.found.now.items c.loop-end.found.items c.if-ends_at.found.items (single ends.start span.last ∷ []) from
          c.loop-end.invariant
          (back-letters c.args.keep tokens letters (At tokens span end) end span.last c.tokens_have_texts.ensures c.requires.letters (last-one tokens span c.requires.placed)
          (front-to tokens span.kind end span.last front) (refl, at_end c.requires.kind) one ends)
          (ap (λ v. v.items) w.found-is ∙ (w.in_ok-push.ensures.items ∙ ap (λ s. c.loop-end.found.items ++ (s ∷ [])) (w.single.ensures ∙ ap (λ p. single p span.last) (omega (arith, ends.end)))))
      | else-ends_at w ↦
          below-more c.args.keep tokens (IsWordOf letters) span end c.args.found.now.items c.loop-end.found.items c.if-ends_at.found.items [] from
          c.loop-end.invariant
          (back-no_letters c.args.keep tokens letters (At tokens span end) c.tokens_have_texts.ensures c.requires.letters (λ q l e. let same = (one q l e).0 in let within = within-one tokens span end c.requires.placed from to in omega (arith, same, within))
          (λ q l e ends. no w.if-ends_at.false (subst (λ x. EndsAt (spelling_of tokens) letters x) (one q l e).0 ends)))
          (ap (λ v. v.items) w.found-is ∙ sym (append-nil c.loop-end.found.items))
    ]
  where
    at_number : (c.args.span.kind ≡ End) ⊎ (c.args.span.kind ≡ Place) → (q : _) → IsPlaceOf c.args.view.now c.args.span.kind c.loop-end.end q → q ≡ c.loop-end.end
    at_number (inl is) q place = subst (λ k. IsPlaceOf c.args.view.now k c.loop-end.end q) is place
    at_number (inr is) q place = subst (λ k. IsPlaceOf c.args.view.now k c.loop-end.end q) is place

    at_end : (c.args.span.kind ≡ End) ⊎ (c.args.span.kind ≡ Place) → IsPlaceOf c.args.view.now c.args.span.kind c.loop-end.end c.loop-end.end
    at_end (inl is) = subst (λ k. IsPlaceOf c.args.view.now k c.loop-end.end c.loop-end.end) (sym is) refl
    at_end (inr is) = subst (λ k. IsPlaceOf c.args.view.now k c.loop-end.end c.loop-end.end) (sym is) refl

    no : c.ends_at.result ≡ false → EndsAt (spelling_of c.args.view.now) c.args.letters.now c.loop-end.end → ⊥
    no is ends = let yes = c.ends_at.ensures.1 (subst (λ x. EndsAt x c.args.letters.now c.loop-end.end) (sym c.bytes.ensures) ends) in cc

pub returns : goal.returns
returns c =
    below-all c.args.keep c.args.view.now (IsWordOf c.args.letters.now) c.args.span c.loop-end.end c.args.found.now.items c.loop-end.found.items
    (omega (arith, c.loop-end.auto, c.loop-end-test.false, c.end_of-end-end.ensures, c.requires.placed.ordered 0 c.args.span (omega arith)))
    c.loop-end.invariant
