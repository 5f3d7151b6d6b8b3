-- Sets of places of a text, given as spans of numbers of a kind, each with the last token of a match.
use Rattle.std.specs.Prelude.{◌≡◌, ℕ, ◌<◌, ◌≤◌, List, All, length, slice_index}
use Rattle.std.specs.Str.{IsCharBoundary}
use Rattle.lic_tokens.specs.Tokens.{TokenValue}
use Rattle.lic_tokens.specs.Places.{place_end}
use Rattle.lic_places.specs.Places.{OverBlank, spelling_of}
use Rattle.lic_spans.specs.Spans.{Holds}
use Rattle.lic_spans.specs.declared.span.SpanKind.{SpanKind}
use Rattle.lic_spans.specs.declared.span.SpanKind.TheVariants.{End, Place, Letters, Blanks}
use Rattle.lic_spans.specs.declared.span.PlaceSpan.{PlaceSpan}

-- a letter begins at the place, or the text ends there
pub record IsLetterPlace (tokens : List TokenValue) (p : ℕ) : Type 0 where
  pub whole : IsCharBoundary (spelling_of tokens) p
  pub letter : ¬ (slice_index (spelling_of tokens) p ≡ 0x20)

-- the place that a number of a span of this kind gives: itself; itself where a letter begins there; or that to which a blank leads from there
abbrev pub IsPlaceOf : List TokenValue → SpanKind → ℕ → ℕ → Type 0
IsPlaceOf tokens End number p = p ≡ number
IsPlaceOf tokens Place number p = p ≡ number
IsPlaceOf tokens Letters number p = (p ≡ number) × IsLetterPlace tokens number
IsPlaceOf tokens Blanks number p = IsLetterPlace tokens number × OverBlank tokens p number

-- the spans have the place, with this last token
pub record Reaches (tokens : List TokenValue) (spans : List PlaceSpan) (p last : ℕ) : Type 0 where
  pub kind : SpanKind
  pub number : ℕ
  pub holds : Holds spans kind number last
  pub place : IsPlaceOf tokens kind number p

-- where a number may lie: at the end of its last token, where nothing was taken yet, or before that end
abbrev pub LiesBefore : List TokenValue → SpanKind → ℕ → ℕ → Type 0
LiesBefore tokens End number last = number ≡ place_end tokens last
LiesBefore tokens Place number last = (number < place_end tokens last) × IsCharBoundary (spelling_of tokens) number
LiesBefore tokens Letters number last = number < place_end tokens last
LiesBefore tokens Blanks number last = number < place_end tokens last

-- each number of the spans lies in the text, before the end of its last token or at it
pub record ArePlaced (tokens : List TokenValue) (spans : List PlaceSpan) : Type 0 where
  pub ordered : All (λ s. s.low ≤ s.high) spans
  pub last : All (λ s. s.last < length tokens) spans
  pub front : (kind : SpanKind) (number last : ℕ) → Holds spans kind number last → LiesBefore tokens kind number last
