use Rattle.std.proofs.Common.{◌<◌, length, arith}
use Rattle.lic_view.proofs.SameLemmas.{same-all, same-more}
use Rattle.lic_view.proofs.sets.same.are_same.Goals as goal

pub loop-i-preserved : goal.loop-i-preserved
loop-i-preserved c =
    let other : c.loop-i.i < length c.args.others.now = omega (arith, c.loop-i-test.true, c.if-spans-others.false) in
    same-more c.args.spans.now c.args.others.now c.loop-i.i _ _ c.loop-i-test.true other c.loop-i.invariant (c.is_same.ensures c.if-not-is_same.false)

pub returns : goal.returns
returns c = λ _. same-all c.args.spans.now c.args.others.now c.loop-i.i c.loop-i-test.false (omega (arith, c.loop-i-test.false, c.if-spans-others.false)) c.loop-i.invariant
