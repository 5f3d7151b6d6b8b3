-- Whether one of the spans has the place.
use Rattle.std.proofs.Common.{refl, sym, ◌∙◌, arith}
use Rattle.std.proofs.lemmas.Bool.{false≢true}
use Rattle.std.proofs.lemmas.List.Elements.{Contains-get_or}
use Rattle.lic_view.proofs.SpanLoops.{placed-one}
use Rattle.lic_reverse.proofs.ReverseLemmas.{reaches-number, reaches-none, one-more}
use Rattle.lic_reverse.proofs.reverse.have_place.Goals as goal

pub has_place-requires : goal.has_place-requires
has_place-requires c = placed-one c.args.view.now c.args.spans.now c.loop-span.span-index _ c.loop-span-test.true c.requires

pub returns-then-has_place : goal.returns-then-has_place
returns-then-has_place c =
    let found = c.has_place.ensures.0 c.if-has_place.true in (
      λ _. reaches-number c.args.view.now c.args.spans.now _ c.args.place (Contains-get_or c.args.spans.now _ _ c.loop-span-test.true) found,
      λ _. refl,
    )

pub loop-span-preserved : goal.loop-span-preserved
loop-span-preserved c =
    one-more c.args.view.now c.args.spans.now c.args.place c.loop-span.span-index _ c.loop-span-test.true c.loop-span.invariant
    (λ found. false≢true (sym c.if-has_place.false ∙ c.has_place.ensures.1 found))

pub returns : goal.returns
returns c = (
  λ e. absurd (false≢true e),
  λ found. absurd (reaches-none c.args.view.now c.args.spans.now c.args.place found.0
      (λ k d below. c.loop-span.invariant k d (omega (arith, below, c.loop-span-test.false))) found.1),
)
