-- The ends in one stretch more, and then in all.
use Rattle.std.proofs.Common.{subst, sym}
use Rattle.lic_places.specs.Places.{spelling_of}
use Rattle.lic_literals.specs.Ends.{EndsAt}
use Rattle.lic_spans.specs.declared.span.SpanKind.TheVariants.{End}
use Rattle.lic_spans.specs.declared.span.PlaceSpan.{PlaceSpan}
use Rattle.lic_view.specs.Wide.{AreStretchesOf}
use Rattle.lic_view.proofs.StretchLemmas.{stretch-within, those-all, those-more, those-none, those-of}
use Rattle.lic_view.proofs.over.letters.wide_ends.Goals as goal

-- what code reads an index with
none : PlaceSpan
none = record { low = 0; high = 0; last = 0; kind = End }

pub ends_within-requires-clause-within : goal.ends_within-requires-clause-within
unfolding none
ends_within-requires-clause-within c =
    let items = c.deref-stretch-items.result.now in
    let are : AreStretchesOf c.args.spans.now items = subst (AreStretchesOf c.args.spans.now) (sym c.deref-stretch-items.ensures.value) c.in_ok-stretches.ensures in
    rw c.bytes.ensures (stretch-within c.args.view.now c.args.spans.now items c.loop-stretch.stretch-index none c.requires.placed are c.loop-stretch-test.true)

pub loop-stretch-init : goal.loop-stretch-init
loop-stretch-init c = those-none (EndsAt (spelling_of c.args.view.now) c.args.letters.now) c.new-ends.result.items c.new-ends.ensures.items

pub loop-stretch-preserved : goal.loop-stretch-preserved
loop-stretch-preserved c =
    let items = c.deref-stretch-items.result.now in
    let are : AreStretchesOf c.args.spans.now items = subst (AreStretchesOf c.args.spans.now) (sym c.deref-stretch-items.ensures.value) c.in_ok-stretches.ensures in
    those-more (EndsAt (spelling_of c.args.view.now) c.args.letters.now) items c.loop-stretch.stretch-index _ c.loop-stretch.ends.items c.in_ok-more.more.items c.append.new.self.items
    c.loop-stretch-test.true are.apart c.loop-stretch.invariant c.in_ok-more.ensures.rising
    (λ place. let exact = c.in_ok-more.ensures.exact place in (
      λ among. let found = exact.0 among in (found.0, found.1, subst (λ bytes. EndsAt bytes c.args.letters.now place) c.bytes.ensures found.2),
      λ found. exact.1 (found.0, found.1, subst (λ bytes. EndsAt bytes c.args.letters.now place) (sym c.bytes.ensures) found.2),
    ))
    c.in_ok-append.ensures.items

pub returns : goal.returns
returns c = λ span among wide.
    let items = c.deref-stretch-items.result.now in
    let are : AreStretchesOf c.args.spans.now items = subst (AreStretchesOf c.args.spans.now) (sym c.deref-stretch-items.ensures.value) c.in_ok-stretches.ensures in
    those-of (EndsAt (spelling_of c.args.view.now) c.args.letters.now) c.args.spans.now items c.loop-stretch.ends.items span are
    (those-all (EndsAt (spelling_of c.args.view.now) c.args.letters.now) items c.loop-stretch.stretch-index c.loop-stretch.ends.items c.loop-stretch-test.false c.loop-stretch.invariant)
    among wide
