-- The spans up to the index are held, and the others start after them.
use Rattle.std.proofs.Common.{ℕ, ◌≤◌, ◌<◌, ◌↔◌, length, get_or, take}
use Rattle.std.specs.List.{All}
use Rattle.lic_spans.specs.declared.span.SpanKind.{SpanKind}
use Rattle.lic_spans.specs.declared.span.PlaceSpan.{PlaceSpan}
use Rattle.lic_spans.specs.Spans.{AreApartOfLast, Holds, StartsBefore}
use Rattle.lic_spans.proofs.each.joined.Given as goal

abbrev pub invariant-loop-span : goal.invariant-loop-span
invariant-loop-span l = record {
  same : (k : SpanKind) (p t : ℕ) → Holds l.each.items k p t ↔ Holds (take l.span-index l.spans) k p t;
  apart : AreApartOfLast l.each.items;
  start : (j : ℕ) (d : PlaceSpan) → l.span-index ≤ j → j < length l.spans → All (λ s. StartsBefore s (get_or l.spans j d)) l.each.items;
  ordered : All (λ s. s.low ≤ s.high) l.each.items;
  few : length l.each.items ≤ l.span-index;
}
