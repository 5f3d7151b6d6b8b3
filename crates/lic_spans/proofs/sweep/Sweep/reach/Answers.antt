-- At the greatest place all is done, and the sweep turns to the other kind.
use Rattle.std.proofs.Common.{◌≡◌, sym, ◌∙◌, subst, arith, length, ap}
use Rattle.std.specs.BinaryHeap.{heap_items}
use Rattle.lic_spans.specs.Sweeps.{IsSweepOf}
use Rattle.lic_spans.proofs.Ranks.{same_kind}
use Rattle.lic_spans.proofs.Sweeping.{IsSweepOf-advanced, IsSweepOf-turned, reaches_below}
use Rattle.lic_spans.proofs.sweep.Sweep.reach.Goals as goal

pub returns-clause-sweep : goal.returns-clause-sweep
returns-clause-sweep c = λ taken h.
    let e = c.in_ok-settle.ensures in
    let other : c.args.self.now.kind ≡ c.args.kind → ⊥ = same_kind c.args.self.now.kind c.args.kind (sym c.eq.ensures ∙ c.if-eq.false) in
    subst (λ items. IsSweepOf taken c.args.kind 0 items c.settle.new.self.least.items) (sym c.clear.ensures.items)
    (IsSweepOf-turned taken c.args.self.now.kind (heap_items c.settle.new.self.active) c.settle.new.self.least.items c.args.kind c.requires other
    (IsSweepOf-advanced taken c.args.self.now.kind c.args.self.now.at (heap_items c.args.self.now.active) c.args.self.now.least.items 18446744073709551615
    (heap_items c.settle.new.self.active) c.settle.new.self.least.items e.advances h))

pub returns-clause-few : goal.returns-clause-few
returns-clause-few c = λ taken h.
    let few = c.in_ok-settle.ensures.fewer (reaches_below taken c.args.self.now.kind c.args.self.now.at (heap_items c.args.self.now.active) c.args.self.now.least.items h) in
    let none : length (heap_items c.clear.new.self) ≡ 0 = ap length c.clear.ensures.items in
    omega arith
