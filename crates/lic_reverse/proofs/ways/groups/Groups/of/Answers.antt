-- The places of one span more, and then of all.
use Rattle.std.proofs.Common.{arith}
use Rattle.lic_view.proofs.SpanLoops.{placed-one}
use Rattle.lic_reverse.proofs.LetterGroupLemmas.{groups-all, groups-more, groups-none}
use Rattle.lic_reverse.proofs.ways.groups.Groups.of.Goals as goal

pub loop-span-init : goal.loop-span-init
loop-span-init c =
    groups-none c.args.view.now c.args.spans.now c.in_ok-lists.lists.items (omega (arith, c.in_ok-lists.ensures.count, c.max-count.ensures)) c.in_ok-lists.ensures.none

pub add_span-requires-clause-placed : goal.add_span-requires-clause-placed
add_span-requires-clause-placed c = placed-one c.args.view.now c.args.spans.now c.loop-span.span-index _ c.loop-span-test.true c.requires

pub loop-span-preserved : goal.loop-span-preserved
loop-span-preserved c =
    groups-more c.args.view.now c.args.spans.now c.loop-span.span-index _ c.loop-span.lists.items c.add_span.new.lists.items c.loop-span-test.true c.loop-span.invariant c.in_ok-add_span.ensures

pub returns : goal.returns
returns c = groups-all c.args.view.now c.args.spans.now c.loop-span.span-index c.loop-span.lists.items c.loop-span-test.false c.loop-span.invariant
