-- The span is added.
use Rattle.lic_vars.proofs.LetterLemmas.{times-all, times-more}
use Rattle.lic_vars.proofs.letters.push_times.Goals as goal

pub loop-left-preserved : goal.loop-left-preserved
loop-left-preserved c =
    times-more c.loop-left.spans.items c.push.new.self.items _ c.args.span c.loop-left.left c.loop-left-test.true c.in_ok-push.ensures.items c.loop-left.invariant

pub returns : goal.returns
returns c = times-all c.loop-left.spans.items _ c.args.span c.loop-left.left c.loop-left-test.false c.loop-left.invariant
