-- The sweep continued to where it is; each active span that left has paid for one that was added.
use Rattle.std.proofs.Common.{◌≡◌, ◌+◌, ◌≤◌, length}
use Rattle.std.specs.BinaryHeap.{heap_items, heap_len}
use Rattle.lic_spans.specs.Sweeps.{Advances}
use Rattle.lic_spans.proofs.sweep.Sweep.settle.Given as goal

abbrev pub invariant-loop-last : goal.invariant-loop-last
invariant-loop-last l = record {
  advances : Advances l.initial.self.kind l.initial.self.at (heap_items l.initial.self.active) l.initial.self.least.items
      l.self.at (heap_items l.self.active) l.self.least.items;
  kind : l.self.kind ≡ l.initial.self.kind;
  onward : l.self.at ≤ l.to;
  few : length l.self.least.items + length (heap_items l.self.active)
      ≤ length l.initial.self.least.items + length (heap_items l.initial.self.active);
}

abbrev pub decreases-loop-last : goal.decreases-loop-last
decreases-loop-last l = heap_len l.self.active
