use Rattle.std.proofs.Common.{◌≡◌, [], ◌∷◌, ◌++◌, false, arith, ap, sym, ◌∙◌, get_or}
use Rattle.std.proofs.lemmas.List.{append-nil}
use Rattle.std.proofs.lemmas.List.Elements.{Contains-get_or}
use Rattle.lic_literals.proofs.Rising.{le_later}
use Rattle.lic_places.specs.Places.{spelling_of}
use Rattle.lic_literals.specs.Ends.{EndsAt}
use Rattle.lic_view.proofs.LetterLemmas.{IsWordOf}
use Rattle.lic_view.proofs.SingleLemmas.{single}
use Rattle.lic_view.proofs.WideLemmas.{HasPlace, letters-meant, listed-all, listed-first, listed-more, wide-none, wide-step}
use Rattle.lic_view.proofs.over.letters.add_wide.Goals as goal
use Rattle.lic_view.proofs.over.letters.add_wide.Goals.{then-has_place+in_ok-push, else-has_place}

pub loop-number-init : goal.loop-number-init
loop-number-init c =
    listed-first c.args.keep c.args.view.now (IsWordOf c.args.letters.now) c.args.span c.args.ends.now c.first_from-first.result c.args.found.now.items c.requires.kind
    (λ k low. omega (arith, c.first_from-first.ensures.before k low, c.saturating_sub.ensures))

pub overflow_sub-end : goal.overflow_sub-end
overflow_sub-end c =
    let ends = c.requires.ends.sound (get_or c.args.ends.now c.loop-number.number 0) (Contains-get_or c.args.ends.now c.loop-number.number 0 c.loop-number-test.true) in
    omega (arith, ends.end)

pub loop-number-preserved : goal.loop-number-preserved
loop-number-preserved c =
    let tokens = c.args.view.now in
    let letters = c.args.letters.now in
    let span = c.args.span in
    let places = c.args.ends.now in
    let number = c.loop-number.number in
    let e = get_or places number 0 in
    let ends : EndsAt (spelling_of tokens) letters e = c.requires.ends.sound e (Contains-get_or places number 0 c.loop-number-test.true) in
    elim c.if-has_place.branch [
      | then-has_place+in_ok-push w ↦
          listed-more c.args.keep tokens (IsWordOf letters) span places number c.args.found.now.items c.loop-number.found.items c.if-has_place.found.items
          (single ends.start span.last ∷ []) c.loop-number.invariant
          (wide-step c.args.keep tokens letters span e c.tokens_have_texts.ensures c.requires.letters c.requires.placed (c.has_place.ensures.0 w.if-has_place.true) ends)
          (ap (λ v. v.items) w.found-is ∙ (w.in_ok-push.ensures.items ∙ ap (λ s. c.loop-number.found.items ++ (s ∷ [])) (w.single.ensures ∙ ap (λ p. single p span.last) (omega (arith, ends.end)))))
      | else-has_place w ↦
          listed-more c.args.keep tokens (IsWordOf letters) span places number c.args.found.now.items c.loop-number.found.items c.if-has_place.found.items
          [] c.loop-number.invariant
          (wide-none c.args.keep tokens (IsWordOf letters) span e (λ has. no w.if-has_place.false has))
          (ap (λ v. v.items) w.found-is ∙ sym (append-nil c.loop-number.found.items))
    ]
  where
    no : c.has_place.result ≡ false → HasPlace c.args.view.now c.args.span (get_or c.args.ends.now c.loop-number.number 0) → ⊥
    no is has = let yes = c.has_place.ensures.1 has in cc

-- those from one that lies after the span on lie after it
pub returns-then-span-end : goal.returns-then-span-end
returns-then-span-end c =
    let places = c.args.ends.now in
    let number = c.loop-number.number in
    listed-all c.args.keep c.args.view.now (IsWordOf c.args.letters.now) (EndsAt (spelling_of c.args.view.now) c.args.letters.now) c.args.span places number
    c.args.found.now.items c.loop-number.found.items c.requires.kind c.requires.ends
    (λ k from low. omega (arith, c.if-span-end.true, le_later places c.requires.ends.rising number k from low))
    (letters-meant c.args.view.now c.args.letters.now (c.args.span ∷ []) c.tokens_have_texts.ensures c.requires.letters c.requires.placed)
    c.loop-number.invariant

pub returns : goal.returns
returns c =
    listed-all c.args.keep c.args.view.now (IsWordOf c.args.letters.now) (EndsAt (spelling_of c.args.view.now) c.args.letters.now) c.args.span c.args.ends.now c.loop-number.number
    c.args.found.now.items c.loop-number.found.items c.requires.kind c.requires.ends
    (λ k from low. absurd (omega (arith, c.loop-number-test.false)))
    (letters-meant c.args.view.now c.args.letters.now (c.args.span ∷ []) c.tokens_have_texts.ensures c.requires.letters c.requires.placed)
    c.loop-number.invariant
