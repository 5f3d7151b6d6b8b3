use Rattle.lic_view.specs.PlaceSets.{Reaches}
use Rattle.lic_view.proofs.BlankLemmas.{IsBlank}
use Rattle.lic_view.proofs.DoubledLemmas.{back-as_many}
use Rattle.lic_view.proofs.SpanLoops.{placed-one, spans-all, spans-more, spans-none}
use Rattle.lic_view.proofs.over.blanks.over_blanks.Goals as goal

pub loop-span-init : goal.loop-span-init
loop-span-init c = spans-none c.args.keep c.args.view.now IsBlank c.in_ok-found.found.items c.in_ok-found.ensures.items

pub add_over_blank-requires : goal.add_over_blank-requires
add_over_blank-requires c = placed-one c.args.view.now c.args.spans.now c.loop-span.span-index _ c.loop-span-test.true c.requires

pub loop-span-preserved : goal.loop-span-preserved
loop-span-preserved c =
    spans-more c.args.keep c.args.view.now IsBlank c.args.spans.now c.loop-span.span-index _ c.loop-span.found.items c.add_over_blank.new.found.items
    c.loop-span-test.true c.loop-span.invariant c.in_ok-add_over_blank.ensures

pub returns : goal.returns
returns c =
    let all = spans-all c.args.keep c.args.view.now IsBlank c.args.spans.now c.loop-span.span-index c.loop-span.found.items c.loop-span-test.false c.loop-span.invariant in
    back-as_many c.args.keep c.args.view.now IsBlank (Reaches c.args.view.now c.args.spans.now) c.loop-span.found.items c.drop_doubled.new.spans.items c.drop_doubled.ensures all
