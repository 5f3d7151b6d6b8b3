-- Single places that a span of many has too.
use Rattle.std.specs.Prelude.{◌≡◌, ℕ, ◌+◌, ◌<◌, ◌≤◌, List, Contains, IsTrue}
use Rattle.lic_tokens.specs.Tokens.{TokenValue}
use Rattle.lic_places.specs.Places.{is_blank_at, spelling_of}
use Rattle.lic_spans.specs.declared.span.SpanKind.TheVariants.{Place}
use Rattle.lic_spans.specs.declared.span.PlaceSpan.{PlaceSpan}
use Rattle.lic_view.specs.PlaceSets.{IsLetterPlace, Reaches}

-- the span is one place with a blank, after which a letter begins at a number of the other span, and both have the same last token
pub record IsWithin (tokens : List TokenValue) (other span : PlaceSpan) : Type 0 where
  pub kind : span.kind ≡ Place
  pub one : span.high ≡ span.low
  pub last : span.last ≡ other.last
  pub from : other.low ≤ span.low + 1
  pub to : span.low < other.high
  pub blank : IsTrue (is_blank_at (spelling_of tokens) span.low)
  pub letter : IsLetterPlace tokens (span.low + 1)

-- some of the spans, with all places of them
pub record AreAsMany (tokens : List TokenValue) (spans some : List PlaceSpan) : Type 0 where
  pub among : (s : PlaceSpan) → Contains some s → Contains spans s
  pub all : (p last : ℕ) → Reaches tokens spans p last → Reaches tokens some p last
