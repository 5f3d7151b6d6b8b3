use Rattle.std.proofs.Common.{◌≡◌, ◌⊎◌, ap, get_or, inl, inr, subst, sym}
use Rattle.std.proofs.lemmas.List.Elements.{Contains-get_or}
use Rattle.lic_places.specs.Places.{spelling_of}
use Rattle.lic_literals.specs.Ends.{EndsAt}
use Rattle.lic_spans.specs.Spans.{gap_of}
use Rattle.lic_spans.specs.declared.span.SpanKind.{SpanKind}
use Rattle.lic_spans.specs.declared.span.SpanKind.TheVariants.{Blanks, End, Letters}
use Rattle.lic_spans.specs.declared.span.PlaceSpan.{PlaceSpan}
use Rattle.lic_view.specs.Wide.{HoldThoseOf}
use Rattle.lic_view.specs.Backward.{AddsBack}
use Rattle.lic_view.proofs.LetterLemmas.{IsWordOf}
use Rattle.lic_view.proofs.SpanLoops.{placed-one, spans-all, spans-more, spans-none}
use Rattle.lic_view.proofs.over.letters.over_letters.Goals as goal
use Rattle.lic_view.proofs.over.letters.over_letters.Goals.{in-End+in_ok-add_single-in-End, in-Letters+in_ok-add_wide-in-Letters}

pub loop-span-init : goal.loop-span-init
loop-span-init c = spans-none c.args.keep c.args.view.now (IsWordOf c.args.letters.now) c.new-found.result.items c.new-found.ensures.items

pub add_single-requires-clause-placed : goal.add_single-requires-clause-placed
add_single-requires-clause-placed c = placed-one c.args.view.now c.args.spans.now c.loop-span.span-index _ c.loop-span-test.true c.requires.placed

wide : (kind : SpanKind) → (kind ≡ Letters) ⊎ (kind ≡ Blanks) → gap_of kind ≡ 1
wide kind (inl is) = ap gap_of is
wide kind (inr is) = ap gap_of is

-- what code reads an index with
none : PlaceSpan
none = record { low = 0; high = 0; last = 0; kind = End }

pub add_wide-requires-clause-ends : goal.add_wide-requires-clause-ends
unfolding none
add_wide-requires-clause-ends c =
    let span = get_or c.args.spans.now c.loop-span.span-index none in
    subst (HoldThoseOf (EndsAt (spelling_of c.args.view.now) c.args.letters.now) span) (sym c.deref.ensures.value)
    (c.in_ok-ends.ensures span (Contains-get_or c.args.spans.now c.loop-span.span-index none c.loop-span-test.true) (wide span.kind c.in-Letters.is))

pub loop-span-preserved : goal.loop-span-preserved
loop-span-preserved c =
    let more = spans-more c.args.keep c.args.view.now (IsWordOf c.args.letters.now) c.args.spans.now c.loop-span.span-index in
    elim c.match-span.branch [
      | in-End+in_ok-add_single-in-End w ↦
          more _ c.loop-span.found.items c.match-span.found.items c.loop-span-test.true c.loop-span.invariant
          (subst (λ v. AddsBack c.args.keep c.args.view.now (IsWordOf c.args.letters.now) _ c.loop-span.found.items v.items) (sym w.found-is) w.in_ok-add_single-in-End.ensures)
      | in-Letters+in_ok-add_wide-in-Letters w ↦
          more _ c.loop-span.found.items c.match-span.found.items c.loop-span-test.true c.loop-span.invariant
          (subst (λ v. AddsBack c.args.keep c.args.view.now (IsWordOf c.args.letters.now) _ c.loop-span.found.items v.items) (sym w.found-is) w.in_ok-add_wide-in-Letters.ensures)
    ]

pub returns : goal.returns
returns c = spans-all c.args.keep c.args.view.now (IsWordOf c.args.letters.now) c.args.spans.now c.loop-span.span-index c.loop-span.found.items c.loop-span-test.false c.loop-span.invariant
