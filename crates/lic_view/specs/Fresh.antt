-- Spans that are not among others.
use Rattle.std.specs.Prelude.{◌⊎◌, List, Contains}
use Rattle.lic_spans.specs.declared.span.PlaceSpan.{PlaceSpan}

-- of the spans those that are not known, but that some that are known may be left
pub record AreFresh (spans known fresh : List PlaceSpan) : Type 0 where
  pub among : (span : PlaceSpan) → Contains fresh span → Contains spans span
  pub parted : (span : PlaceSpan) → Contains spans span → Contains fresh span ⊎ Contains known span
