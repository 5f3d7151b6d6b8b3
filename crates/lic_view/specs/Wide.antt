-- Places that lie in spans of many places, and which of them are listed.
use Rattle.std.specs.Prelude.{◌≡◌, ℕ, ◌+◌, ◌-◌, ◌<◌, ◌≤◌, ◌↔◌, List, [], ◌∷◌, All, AllPairs, Contains}
use Rattle.std.specs.List.Sorted.{IsStrictlyIncreasing}
use Rattle.lic_tokens.specs.Tokens.{TokenValue}
use Rattle.lic_spans.specs.Spans.{gap_of}
use Rattle.lic_spans.specs.declared.span.SpanKind.TheVariants.{Letters}
use Rattle.lic_spans.specs.declared.span.PlaceSpan.{PlaceSpan}
use Rattle.lic_view.specs.PlaceSets.{Reaches}

-- from the place before a span's first one to its last one
abbrev pub stretch_of : PlaceSpan → PlaceSpan
stretch_of span = record { low = span.low - 1; high = span.high; last = 0; kind = Letters }

-- some stretch has the place
pub record LiesIn (stretches : List PlaceSpan) (place : ℕ) : Type 0 where
  pub stretch : PlaceSpan
  pub among : Contains stretches stretch
  pub from : stretch.low ≤ place
  pub to : place ≤ stretch.high

-- The stretches lie apart in rising order, none ends after all spans, and each place of a span of many lies in one of them.
pub record AreStretchesOf (spans stretches : List PlaceSpan) : Type 0 where
  pub apart : AllPairs (λ before after. before.high < after.low) stretches
  pub ordered : All (λ s. s.low ≤ s.high) stretches
  pub within : (s : PlaceSpan) → Contains stretches s → (span : PlaceSpan) × Contains spans span × (s.high ≤ span.high)
  pub all : (span : PlaceSpan) (place : ℕ) → Contains spans span → gap_of span.kind ≡ 1 → span.low ≤ place + 1 → place ≤ span.high
      → LiesIn stretches place

-- these are the places of the stretches that are meant, in rising order
pub record AreThoseIn (Meant : ℕ → Type 0) (stretches : List PlaceSpan) (places : List ℕ) : Type 0 where
  pub rising : IsStrictlyIncreasing places
  pub exact : (place : ℕ) → Contains places place ↔ (LiesIn stretches place × Meant place)

-- the places are meant, in rising order, and among them is each that is meant and lies in the span
pub record HoldThoseOf (Meant : ℕ → Type 0) (span : PlaceSpan) (places : List ℕ) : Type 0 where
  pub rising : IsStrictlyIncreasing places
  pub sound : (place : ℕ) → Contains places place → Meant place
  pub all : (place : ℕ) → span.low ≤ place + 1 → place ≤ span.high → Meant place → Contains places place

-- the one place, where it is one of a span
abbrev pub This : List TokenValue → PlaceSpan → ℕ → ℕ → ℕ → Type 0
This tokens span end q last = (q ≡ end) × Reaches tokens (span ∷ []) q last
