use Rattle.std.proofs.Common.{ap, ◌∙◌, arith}
use Rattle.lic_view.proofs.FreshLemmas.{fresh-all, fresh-more, fresh-none, fresh-same}
use Rattle.lic_view.proofs.sets.fresh.fresh_spans.Goals as goal
use Rattle.lic_view.proofs.sets.fresh.fresh_spans.Goals.{then-from-known+in_ok-push, else-from-known+else-not-is_same}

pub loop-span-init : goal.loop-span-init
loop-span-init c = record {
  within = omega arith;
  fresh = fresh-none c.args.known.now c.new-fresh.result.items c.new-fresh.ensures.items;
}

pub loop-span-preserved : goal.loop-span-preserved
loop-span-preserved c = record {
  within = c.first_from-from.ensures.within;
  fresh = elim c.if-from-known.branch [
    | then-from-known+in_ok-push w ↦
        fresh-more c.args.spans.now c.args.known.now c.loop-span.fresh.items c.loop-span.span-index _ c.loop-span-test.true c.loop-span.invariant.fresh
        c.if-from-known.fresh.items (ap (λ v. v.items) w.fresh-is ∙ w.in_ok-push.ensures.items)
    | else-from-known+else-not-is_same w ↦
        fresh-same c.args.spans.now c.args.known.now c.loop-span.fresh.items c.if-from-known.fresh.items c.loop-span.span-index c.first_from-from.result _ _
        c.loop-span-test.true c.first_from-from.ensures.within w.if-from-known.false
        (w.is_same.ensures w.if-not-is_same.false) (ap (λ v. v.items) w.fresh-is) c.loop-span.invariant.fresh
  ];
}

pub returns : goal.returns
returns c = fresh-all c.args.spans.now c.args.known.now c.loop-span.fresh.items c.loop-span.span-index c.loop-span-test.false c.loop-span.invariant.fresh
