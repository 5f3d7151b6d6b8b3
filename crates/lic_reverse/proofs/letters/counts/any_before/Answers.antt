-- Each span adds its own.
use Rattle.std.proofs.Common.{None}
use Rattle.lic_reverse.proofs.CountWords.{Counted}
use Rattle.lic_view.proofs.SpanLoops.{placed-one, spans-all, spans-more, spans-none}
use Rattle.lic_reverse.proofs.letters.counts.any_before.Goals as goal

pub loop-span-init : goal.loop-span-init
loop-span-init c = spans-none c.args.keep c.args.view.now (Counted 1 None) c.new-found.result.items c.new-found.ensures.items

pub add_counted-requires : goal.add_counted-requires
add_counted-requires c = placed-one c.args.view.now c.args.spans.now c.loop-span.span-index _ c.loop-span-test.true c.requires

pub loop-span-preserved : goal.loop-span-preserved
loop-span-preserved c =
    spans-more c.args.keep c.args.view.now (Counted 1 None) c.args.spans.now c.loop-span.span-index _ c.loop-span.found.items
    c.add_counted.new.found.items c.loop-span-test.true c.loop-span.invariant c.in_ok-add_counted.ensures

pub returns : goal.returns
returns c =
    spans-all c.args.keep c.args.view.now (Counted 1 None) c.args.spans.now c.loop-span.span-index c.loop-span.found.items c.loop-span-test.false c.loop-span.invariant
