-- Where an expression describes ranges of the tokens of a text.
use Rattle.std.specs.Prelude.{◌+◌, ◌≤◌, ◌<◌, List, length, map, Contains, slice_range}
use Rattle.std.specs.Str.{chars}
use Rattle.lic_words.specs.Describing.{IsDescribed}
use Rattle.lic_words.specs.Expressions.{Expression}
use Rattle.lic_norm.specs.Tokens.{TokenValue}
use Rattle.lic_set.specs.declared.triple.Triple.{Triple}
use Rattle.lic_search.specs.declared.range.Range.{Range}

-- the range of a triple
abbrev pub range_of : Triple → Range
range_of t = record { first = t.first; last = t.last }

-- the expression describes the tokens from the first to the last
pub record DescribesRange (tokens : List TokenValue) (expression : Expression) (range : Range) : Type 0 where
  pub order : range.first ≤ range.last
  pub within : range.last < length tokens
  pub described : IsDescribed expression (map (λ t. chars t.text) (slice_range tokens range.first (range.last + 1)))

-- The ranges are described, and within each range that is described lies one of them.
pub record HasLeastRanges (tokens : List TokenValue) (expression : Expression) (found : List Range) : Type 0 where
  pub sound : (range : Range) → Contains found range → DescribesRange tokens expression range
  pub within : (range : Range) → DescribesRange tokens expression range
      → (least : Range) × Contains found least × (range.first ≤ least.first) × (least.last ≤ range.last)
