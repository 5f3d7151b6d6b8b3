-- Spans that are made longer by others.
use Rattle.std.specs.Prelude.{◌≡◌, ◌≤◌, ◌+◌}
use Rattle.lic_spans.specs.declared.span.PlaceSpan.{PlaceSpan}

-- a span of the kind and the last token of another begins within it or right after it, and ends no earlier
pub record Extends (before span : PlaceSpan) : Type 0 where
  pub kind_is : before.kind ≡ span.kind
  pub last_is : before.last ≡ span.last
  pub from : before.low ≤ span.low
  pub gap : span.low ≤ before.high + 1
  pub to : before.high ≤ span.high
