-- The sweep has taken the spans up to the index, and those to come begin no earlier than where it is.
use Rattle.std.proofs.Common.{◌≡◌, ℕ, ◌+◌, ◌*◌, ◌<◌, ◌≤◌, length, get_or, take}
use Rattle.std.specs.BinaryHeap.{heap_items}
use Rattle.lic_spans.specs.declared.span.PlaceSpan.{PlaceSpan}
use Rattle.lic_spans.specs.Spans.{rank}
use Rattle.lic_spans.specs.Sweeps.{IsSweepOf}
use Rattle.lic_spans.proofs.least.swept.Given as goal

abbrev pub invariant-loop-span : goal.invariant-loop-span
invariant-loop-span l = record {
  sweep : IsSweepOf (take l.span-index l.spans) l.sweep.kind l.sweep.at (heap_items l.sweep.active) l.sweep.least.items;
  kinds : (j : ℕ) (d : PlaceSpan) → l.span-index ≤ j → j < length l.spans → rank l.sweep.kind ≤ rank (get_or l.spans j d).kind;
  places : (j : ℕ) (d : PlaceSpan) → l.span-index ≤ j → j < length l.spans → l.sweep.kind ≡ (get_or l.spans j d).kind → l.sweep.at ≤ (get_or l.spans j d).low;
  few : length l.sweep.least.items + length (heap_items l.sweep.active) ≤ 2 * l.span-index;
}
