-- Two lists of spans in one.
use Rattle.std.specs.Prelude.{◌⊎◌, List, Contains}
use Rattle.lic_spans.specs.declared.span.PlaceSpan.{PlaceSpan}

-- all spans of the one list and of the other
pub record AreMerged (spans others all : List PlaceSpan) : Type 0 where
  pub among : (s : PlaceSpan) → Contains all s → Contains spans s ⊎ Contains others s
  pub one : (s : PlaceSpan) → Contains spans s → Contains all s
  pub other : (s : PlaceSpan) → Contains others s → Contains all s
