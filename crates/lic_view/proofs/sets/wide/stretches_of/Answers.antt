-- The stretch of one span more, and then all of them joined.
use Rattle.std.proofs.Common.{◌≡◌, ◌+◌, ◌++◌, ◌∷◌, [], ap, arith, get_or, take, refl, subst, sym, ◌∙◌}
use Rattle.std.proofs.lemmas.List.{take_all}
use Rattle.lic_spans.specs.Spans.{gap_of}
use Rattle.lic_spans.specs.declared.span.SpanKind.TheVariants.{End}
use Rattle.lic_spans.specs.declared.span.PlaceSpan.{PlaceSpan}
use Rattle.lic_view.proofs.StretchLemmas.{AreStretched, stretched-more, stretched-none, stretched-ordered, stretched-single, stretches-joined}
use Rattle.lic_view.proofs.sets.wide.stretches_of.Goals as goal
use Rattle.lic_view.proofs.sets.wide.stretches_of.Goals.{then-not-is_single+in_ok-push, else-not-is_single}

pub loop-span-init : goal.loop-span-init
loop-span-init c = stretched-none c.new-stretches.result.items c.new-stretches.ensures.items

-- what code reads an index with
none : PlaceSpan
none = record { low = 0; high = 0; last = 0; kind = End }

pub loop-span-preserved : goal.loop-span-preserved
unfolding none
loop-span-preserved c =
    elim c.if-not-is_single.branch [
      | then-not-is_single+in_ok-push w ↦
          stretched-more c.args.spans.now c.loop-span.stretches.items c.loop-span.span-index _ c.loop-span-test.true c.loop-span.invariant c.if-not-is_single.stretches.items
          (ap (λ v. v.items) w.stretches-is ∙ (w.in_ok-push.ensures.items ∙ ap (λ s. c.loop-span.stretches.items ++ s ∷ []) w.stretch_of.ensures))
      | else-not-is_single w ↦
          subst (λ v. AreStretched (take (c.loop-span.span-index + 1) c.args.spans.now) v.items) (sym w.stretches-is)
          (stretched-single c.args.spans.now c.loop-span.stretches.items c.loop-span.span-index none c.loop-span-test.true c.loop-span.invariant
          (λ wide. let one : gap_of (get_or c.args.spans.now c.loop-span.span-index none).kind ≡ 0 = w.if-not-is_single.ensures.0 refl in omega arith))
    ]

pub with_each_last-requires : goal.with_each_last-requires
with_each_last-requires c =
    stretched-ordered c.args.spans.now c.loop-span.stretches.items c.requires
    (subst (λ x. AreStretched x c.loop-span.stretches.items) (take_all c.loop-span.span-index c.args.spans.now c.loop-span-test.false) c.loop-span.invariant)

pub returns : goal.returns
returns c =
    let joined = c.in_ok-with_each_last in
    stretches-joined c.args.spans.now c.loop-span.stretches.items joined.field-0.items
    (subst (λ x. AreStretched x c.loop-span.stretches.items) (take_all c.loop-span.span-index c.args.spans.now c.loop-span-test.false) c.loop-span.invariant)
    joined.ensures.same joined.ensures.apart joined.ensures.ordered
