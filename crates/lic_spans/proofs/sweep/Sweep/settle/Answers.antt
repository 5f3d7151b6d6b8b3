-- Each active span covers what it reaches before the place.
use Rattle.std.proofs.Common.{◌≡◌, ◌+◌, ◌<◌, ◌≤◌, max, List, ◌∷◌, length, arith, ap, refl}
use Rattle.std.proofs.lemmas.List.Elements.{All-contains}
use Rattle.std.proofs.lemmas.List.Sorted.{length_permutation}
use Rattle.std.specs.BinaryHeap.{heap_items, heap_len}
use Rattle.std.specs.List.{Contains}
use Rattle.std.specs.List.Sorted.{IsPermutation}
use Rattle.lic_spans.specs.Sweeps.{Active, active_cmp}
use Rattle.lic_spans.proofs.Advancing.{Advances-none, Advances-stopped, Advances-left}
use Rattle.lic_spans.proofs.Heaps.{IsFirst, IsFirst-copied, IsFirst-among, none_copied, taken_out}
use Rattle.lic_spans.proofs.sweep.Sweep.settle.Goals as goal

-- the span that was read is the first
is_first : (c : goal.In_ok-cover) → IsFirst active_cmp (c.in-Some.field-0-0, c.in-Some.high) (heap_items c.loop-last.self.active)
is_first c = IsFirst-copied active_cmp (heap_items c.loop-last.self.active) c.peek.result (c.in-Some.field-0-0, c.in-Some.high)
    (heap_len c.loop-last.self.active) c.loop-last.self.active.data.ok.0 c.in-Some.ensures
    c.peek.ensures.variant c.peek.ensures.lookup c.peek.ensures.greatest c.loop-last.self.in_order

pub returns-then-to-high-clause-advances : goal.returns-then-to-high-clause-advances
returns-then-to-high-clause-advances c =
    let l = c.loop-last in
    let e = c.in_ok-cover.ensures in
    Advances-stopped c.args.self.now.kind c.args.self.now.at (heap_items c.args.self.now.active) c.args.self.now.least.items l.self.at (heap_items l.self.active) l.self.least.items
    l.invariant.advances (c.in-Some.field-0-0, c.in-Some.high) (is_first c) l.self.kind l.invariant.kind c.args.to c.cover.new.self.least.items e.covers
    c.cover.new.self.at e.at e.settled (heap_items c.cover.new.self.active) e.active l.invariant.onward c.if-to-high.true

pub returns-then-to-high-clause-fewer : goal.returns-then-to-high-clause-fewer
returns-then-to-high-clause-fewer c = λ low.
    let x : Active = (c.in-Some.field-0-0, c.in-Some.high) in
    let now : List Active = heap_items c.loop-last.self.active in
    let among : Contains (heap_items c.args.self.now.active) x = c.loop-last.invariant.advances.actives x (IsFirst-among active_cmp now x (is_first c)) in
    let before : c.in-Some.high < c.args.to = All-contains (λ item. item.1 < c.args.to) (heap_items c.args.self.now.active) x low among in
    absurd (omega (arith, c.if-to-high.true))

pub loop-last-preserved : goal.loop-last-preserved
loop-last-preserved c =
    let l = c.loop-last in
    let e = c.in_ok-cover-2.ensures in
    let x : Active = (c.in-Some.field-0-0, c.in-Some.high) in
    let now : List Active = heap_items l.self.active in
    let others : List Active = heap_items c.pop.new.self in
    let first : IsFirst active_cmp x now = IsFirst-copied active_cmp now c.peek.result x (heap_len l.self.active) l.self.active.data.ok.0
    c.in-Some.ensures c.peek.ensures.variant c.peek.ensures.lookup c.peek.ensures.greatest l.self.in_order in
    let moved : IsPermutation now (x ∷ others) = taken_out active_cmp c.pop.result now others x (heap_len l.self.active)
    l.self.active.data.ok.0 first c.pop.ensures.variant c.pop.ensures.top c.pop.ensures.permutation in
    let fewer : length (x ∷ others) ≡ length now = length_permutation now (x ∷ others) moved in
    let left : length (heap_items c.cover-in-Some.new.self.active) ≡ length others = ap length e.active in
    let few : length c.cover-in-Some.new.self.least.items ≤ length l.self.least.items + 1 = e.few in
    let at : c.cover-in-Some.new.self.at ≡ max l.self.at (c.in-Some.high + 1) = e.at in
    record {
      advances = Advances-left c.args.self.now.kind c.args.self.now.at (heap_items c.args.self.now.active) c.args.self.now.least.items l.self.at now l.self.least.items
          l.invariant.advances x first l.self.kind l.invariant.kind (c.in-Some.high + 1) c.cover-in-Some.new.self.least.items e.covers
          c.cover-in-Some.new.self.at e.at e.settled others (heap_items c.cover-in-Some.new.self.active) e.active moved refl;
      kind = cc (e.kind, l.invariant.kind);
      onward = omega arith;
      few = omega arith;
    }

pub returns-clause-advances : goal.returns-clause-advances
returns-clause-advances c =
    let l = c.loop-last in
    let none : 0 < heap_len l.self.active → ⊥ = none_copied (0 < heap_len l.self.active) c.peek.result (c.in_default.ensures) c.peek.ensures.variant in
    let long : heap_len l.self.active ≡ length (heap_items l.self.active) = l.self.active.data.ok.0 in
    Advances-none c.args.self.now.kind c.args.self.now.at (heap_items c.args.self.now.active) c.args.self.now.least.items l.self.at (heap_items l.self.active) l.self.least.items
    l.invariant.advances c.args.to l.invariant.onward (λ item (k, low, is). none (omega arith))
