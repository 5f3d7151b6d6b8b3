use Rattle.lic_ere.specs.Trees.{tree_of}
use Rattle.lic_places.specs.Places.{spelling_of}
use Rattle.lic_reverse.specs.Passing.{passes_of}
use Rattle.lic_reverse.specs.Streaks.{IsStreakTo}
use Rattle.lic_reverse.proofs.KeptLoops.{spans-kept_more}
use Rattle.lic_view.proofs.SpanLoops.{placed-one, spans-all, spans-none}
use Rattle.lic_reverse.proofs.letters.streaks.streaks_before.Goals as goal

pub loop-span-init : goal.loop-span-init
loop-span-init c = record {
  back = spans-none c.args.keep c.args.view.now (IsStreakTo (passes_of (tree_of c.args.letters.now.ere.now)) c.args.letters.now.count c.args.letters.now.after)
      c.new-found.result.items c.new-found.ensures.items;
  known = c.first_streak-known.ensures (spelling_of c.args.view.now) (passes_of (tree_of c.args.letters.now.ere.now)) c.args.letters.now.count;
}

pub add_streaks-requires-clause-placed : goal.add_streaks-requires-clause-placed
add_streaks-requires-clause-placed c = placed-one c.args.view.now c.args.spans.now c.loop-span.span-index _ c.loop-span-test.true c.requires

pub add_streaks-requires-clause-ordered : goal.add_streaks-requires-clause-ordered
add_streaks-requires-clause-ordered c = c.loop-span.invariant.back.placed.ordered

pub loop-span-preserved : goal.loop-span-preserved
loop-span-preserved c = record {
  back = spans-kept_more c.args.keep c.args.view.now (IsStreakTo (passes_of (tree_of c.args.letters.now.ere.now)) c.args.letters.now.count c.args.letters.now.after)
      c.args.spans.now c.loop-span.span-index _ c.loop-span.found.items c.add_streaks.new.found.items
      c.tokens_have_texts.ensures c.loop-span-test.true c.loop-span.invariant.back c.in_ok-add_streaks.ensures.adds;
  known = c.in_ok-add_streaks.ensures.known;
}

pub returns : goal.returns
returns c =
    spans-all c.args.keep c.args.view.now (IsStreakTo (passes_of (tree_of c.args.letters.now.ere.now)) c.args.letters.now.count c.args.letters.now.after)
    c.args.spans.now c.loop-span.span-index c.loop-span.found.items c.loop-span-test.false c.loop-span.invariant.back
