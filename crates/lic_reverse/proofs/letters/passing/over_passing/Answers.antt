use Rattle.std.proofs.Common.{◌≡◌, ◌⊎◌, ap, get_or, inl, inr, subst, sym}
use Rattle.std.proofs.lemmas.List.Elements.{Contains-get_or}
use Rattle.lic_spans.specs.Spans.{gap_of}
use Rattle.lic_spans.specs.declared.span.SpanKind.{SpanKind}
use Rattle.lic_spans.specs.declared.span.SpanKind.TheVariants.{Blanks, End, Letters}
use Rattle.lic_spans.specs.declared.span.PlaceSpan.{PlaceSpan}
use Rattle.lic_view.specs.Backward.{AddsBack}
use Rattle.lic_reverse.specs.PassingPlaces.{LeadsToSome}
use Rattle.lic_view.specs.Wide.{HoldThoseOf}
use Rattle.lic_ere.specs.Trees.{tree_of}
use Rattle.lic_reverse.specs.Passing.{IsPassing, passes_of}
use Rattle.lic_view.proofs.SpanLoops.{placed-one, spans-all, spans-more, spans-none}
use Rattle.lic_reverse.proofs.letters.passing.over_passing.Goals as goal
use Rattle.lic_reverse.proofs.letters.passing.over_passing.Goals.{in-End+in_ok-add_passing-in-End, in-Letters+in_ok-add_wide-in-Letters}

pub loop-span-init : goal.loop-span-init
loop-span-init c = spans-none c.args.keep c.args.view.now (IsPassing (passes_of (tree_of c.args.ere.now))) c.new-found.result.items c.new-found.ensures.items

pub add_passing-requires : goal.add_passing-requires
add_passing-requires c = placed-one c.args.view.now c.args.spans.now c.loop-span.span-index _ c.loop-span-test.true c.requires

wide : (kind : SpanKind) → (kind ≡ Letters) ⊎ (kind ≡ Blanks) → gap_of kind ≡ 1
wide kind (inl is) = ap gap_of is
wide kind (inr is) = ap gap_of is

-- what code reads an index with
none : PlaceSpan
none = record { low = 0; high = 0; last = 0; kind = End }

pub add_wide-requires-clause-ends : goal.add_wide-requires-clause-ends
unfolding none
add_wide-requires-clause-ends c =
    let span = get_or c.args.spans.now c.loop-span.span-index none in
    subst (HoldThoseOf (LeadsToSome c.args.view.now (passes_of (tree_of c.args.ere.now))) span) (sym c.deref.ensures.value)
    (c.in_ok-ends.ensures span (Contains-get_or c.args.spans.now c.loop-span.span-index none c.loop-span-test.true) (wide span.kind c.in-Letters.is))

pub add_wide-requires-clause-placed : goal.add_wide-requires-clause-placed
add_wide-requires-clause-placed c = placed-one c.args.view.now c.args.spans.now c.loop-span.span-index _ c.loop-span-test.true c.requires

pub loop-span-preserved : goal.loop-span-preserved
loop-span-preserved c =
    let passing = IsPassing (passes_of (tree_of c.args.ere.now)) in
    let more = spans-more c.args.keep c.args.view.now passing c.args.spans.now c.loop-span.span-index in
    elim c.match-span.branch [
      | in-End+in_ok-add_passing-in-End w ↦
          more _ c.loop-span.found.items c.match-span.found.items c.loop-span-test.true c.loop-span.invariant
          (subst (λ v. AddsBack c.args.keep c.args.view.now passing _ c.loop-span.found.items v.items) (sym w.found-is) w.in_ok-add_passing-in-End.ensures)
      | in-Letters+in_ok-add_wide-in-Letters w ↦
          more _ c.loop-span.found.items c.match-span.found.items c.loop-span-test.true c.loop-span.invariant
          (subst (λ v. AddsBack c.args.keep c.args.view.now passing _ c.loop-span.found.items v.items) (sym w.found-is) w.in_ok-add_wide-in-Letters.ensures)
    ]

pub returns : goal.returns
returns c = spans-all c.args.keep c.args.view.now (IsPassing (passes_of (tree_of c.args.ere.now))) c.args.spans.now c.loop-span.span-index c.loop-span.found.items c.loop-span-test.false c.loop-span.invariant
