-- The places in one stretch more, and then in all.
use Rattle.std.proofs.Common.{subst, sym}
use Rattle.lic_ere.specs.Trees.{tree_of}
use Rattle.lic_reverse.specs.Passing.{passes_of}
use Rattle.lic_reverse.specs.PassingPlaces.{LeadsToSome}
use Rattle.lic_spans.specs.declared.span.SpanKind.TheVariants.{End}
use Rattle.lic_spans.specs.declared.span.PlaceSpan.{PlaceSpan}
use Rattle.lic_view.specs.Wide.{AreStretchesOf}
use Rattle.lic_view.proofs.StretchLemmas.{stretch-within, those-all, those-more, those-none, those-of}
use Rattle.lic_reverse.proofs.letters.passing.wide_ends.Goals as goal

-- what code reads an index with
none : PlaceSpan
none = record { low = 0; high = 0; last = 0; kind = End }

pub ends_in-requires-clause-order : goal.ends_in-requires-clause-order
unfolding none
ends_in-requires-clause-order c =
    let items = c.deref-stretch-items.result.now in
    let are : AreStretchesOf c.args.spans.now items = subst (AreStretchesOf c.args.spans.now) (sym c.deref-stretch-items.ensures.value) c.in_ok-stretches.ensures in
    are.ordered c.loop-stretch.stretch-index none c.loop-stretch-test.true

pub ends_in-requires-clause-within : goal.ends_in-requires-clause-within
unfolding none
ends_in-requires-clause-within c =
    let items = c.deref-stretch-items.result.now in
    let are : AreStretchesOf c.args.spans.now items = subst (AreStretchesOf c.args.spans.now) (sym c.deref-stretch-items.ensures.value) c.in_ok-stretches.ensures in
    stretch-within c.args.view.now c.args.spans.now items c.loop-stretch.stretch-index none c.requires are c.loop-stretch-test.true

pub loop-stretch-init : goal.loop-stretch-init
loop-stretch-init c = those-none (LeadsToSome c.args.view.now (passes_of (tree_of c.args.ere.now))) c.new-ends.result.items c.new-ends.ensures.items

pub loop-stretch-preserved : goal.loop-stretch-preserved
loop-stretch-preserved c =
    let items = c.deref-stretch-items.result.now in
    let are : AreStretchesOf c.args.spans.now items = subst (AreStretchesOf c.args.spans.now) (sym c.deref-stretch-items.ensures.value) c.in_ok-stretches.ensures in
    those-more (LeadsToSome c.args.view.now (passes_of (tree_of c.args.ere.now))) items c.loop-stretch.stretch-index _ c.loop-stretch.ends.items c.in_ok-more.more.items c.append.new.self.items
    c.loop-stretch-test.true are.apart c.loop-stretch.invariant c.in_ok-more.ensures.rising
    c.in_ok-more.ensures.exact
    c.in_ok-append.ensures.items

pub returns : goal.returns
returns c = λ span among wide.
    let items = c.deref-stretch-items.result.now in
    let are : AreStretchesOf c.args.spans.now items = subst (AreStretchesOf c.args.spans.now) (sym c.deref-stretch-items.ensures.value) c.in_ok-stretches.ensures in
    those-of (LeadsToSome c.args.view.now (passes_of (tree_of c.args.ere.now))) c.args.spans.now items c.loop-stretch.ends.items span are
    (those-all (LeadsToSome c.args.view.now (passes_of (tree_of c.args.ere.now))) items c.loop-stretch.stretch-index c.loop-stretch.ends.items c.loop-stretch-test.false c.loop-stretch.invariant)
    among wide
