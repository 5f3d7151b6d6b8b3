-- At the greatest place all is done.
use Rattle.std.proofs.Common.{arith}
use Rattle.std.specs.BinaryHeap.{heap_items}
use Rattle.lic_spans.proofs.Sweeping.{IsSweepOf-advanced, IsLeastOf-end, reaches_below}
use Rattle.lic_spans.proofs.sweep.Sweep.finish.Goals as goal

pub returns-clause-sweep : goal.returns-clause-sweep
returns-clause-sweep c = λ taken h.
    IsLeastOf-end taken c.args.self.kind (heap_items c.settle.new.self.active) c.settle.new.self.least.items
    (IsSweepOf-advanced taken c.args.self.kind c.args.self.at (heap_items c.args.self.active) c.args.self.least.items 18446744073709551615
    (heap_items c.settle.new.self.active) c.settle.new.self.least.items c.in_ok-settle.ensures.advances h)

pub returns-clause-few : goal.returns-clause-few
returns-clause-few c = λ taken h.
    let few = c.in_ok-settle.ensures.fewer (reaches_below taken c.args.self.kind c.args.self.at (heap_items c.args.self.active) c.args.self.least.items h) in
    omega arith
