use Rattle.std.proofs.Common.{ap, arith}
use Rattle.lic_marks.specs.Cores.{cat_all}
use Rattle.lic_marks.proofs.Children.{cores_more, cores_done, measured_at}
use Rattle.lic_marks.proofs.build.total_weight.Goals as goal

pub weight-requires : goal.weight-requires
weight-requires c = measured_at c.args.children.now c.loop-child.child-index _ c.requires c.loop-child-test.true c.child-item.is

pub loop-child-preserved : goal.loop-child-preserved
loop-child-preserved c =
    let more = ap cat_all (cores_more c.args.children.now c.loop-child.child-index _ c.loop-child-test.true c.child-item.is) in
    let total = rw more at c.loop-child.invariant in
    omega (arith, total, c.in_ok-total.ensures, c.weight.ensures)

pub returns-clause-total : goal.returns-clause-total
returns-clause-total c =
    let done = ap cat_all (cores_done c.args.children.now c.loop-child.child-index c.loop-child-test.false) in
    let total = rw done at c.loop-child.invariant in
    omega (arith, total)
