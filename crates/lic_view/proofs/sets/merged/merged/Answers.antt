use Rattle.lic_view.proofs.MergeLemmas.{merged-all, merged-more}
use Rattle.lic_view.proofs.sets.merged.merged.Goals as goal

pub loop-span-preserved : goal.loop-span-preserved
loop-span-preserved c = record {
  within = c.first_from-next.ensures.within;
  merged = merged-more c.args.spans.now c.args.others.now c.loop-span.all.items c.loop-span.span-index c.loop-span.from c.loop-span.invariant.merged
      c.first_from-next.result _ c.extend_from_slice.new.self.items c.push.new.self.items c.loop-span-test.true c.first_from-next.ensures.from
      c.in_ok-extend_from_slice.ensures.items c.in_ok-push.ensures.items;
}

pub returns : goal.returns
returns c =
    merged-all c.args.spans.now c.args.others.now c.loop-span.all.items c.loop-span.span-index c.loop-span.from c.loop-span.invariant.merged
    c.extend_from_slice-2.new.self.items c.loop-span-test.false c.loop-span.invariant.within c.in_ok-extend_from_slice-2.ensures.items
