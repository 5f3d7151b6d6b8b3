-- The place of the number lies in the text, and no character is cut there.
use Rattle.std.proofs.Common.{refl, sym, ◌∙◌, true≢false, arith}
use Rattle.lic_reverse.proofs.CountNumbers.{IsOfNumber, number-at}
use Rattle.lic_view.proofs.CountPlaces.{number-lies}
use Rattle.lic_reverse.proofs.CountSpans.{back-after_blank, back-counted, back-no_letter}
use Rattle.lic_view.proofs.ViewSpans.{within-one}
use Rattle.lic_reverse.proofs.letters.counts.letters_before.Goals as goal

pub place_of-requires : goal.place_of-requires
place_of-requires c =
    within-one c.args.view.now c.args.span c.args.number c.requires.placed c.requires.low c.requires.high

pub returns-then-is_after_blank-clause-none : goal.returns-then-is_after_blank-clause-none
returns-then-is_after_blank-clause-none c = λ keep.
    let tokens = c.args.view.now in
    back-after_blank keep tokens c.in_ok-place.place c.args.span.last (IsOfNumber tokens c.args.span c.args.number)
    (number-at tokens c.args.span c.args.number c.in_ok-place.place c.in_ok-place.ensures)
    (c.is_after_blank.ensures.0 c.if-is_after_blank.true)

pub returns-then-place-eq0-clause-none : goal.returns-then-place-eq0-clause-none
returns-then-place-eq0-clause-none c = λ keep.
    let tokens = c.args.view.now in
    back-no_letter keep tokens c.in_ok-place.place c.args.span.last (IsOfNumber tokens c.args.span c.args.number)
    (number-at tokens c.args.span c.args.number c.in_ok-place.place c.in_ok-place.ensures) c.if-place-eq0.true

pub returns-clause-some : goal.returns-clause-some
returns-clause-some c = λ keep.
    let tokens = c.args.view.now in
    let span = c.args.span in
    let place = c.in_ok-place.place in
    let lies = number-lies tokens span c.args.number place c.tokens_have_texts.ensures c.requires.placed c.requires.low c.requires.high
    c.in_ok-place.ensures in
    back-counted keep tokens place span.last (IsOfNumber tokens span c.args.number) (number-at tokens span c.args.number place c.in_ok-place.ensures)
    c.tokens_have_texts.ensures lies (omega (arith, c.if-place-eq0.false))
    (λ following. true≢false (sym (c.is_after_blank.ensures.1 following) ∙ c.if-is_after_blank.false)) (c.in_ok-place.ensures, refl)
