-- With which tokens words begin at places of spans.
use Rattle.std.specs.Prelude.{◌≡◌, ℕ, ◌≤◌, ◌↔◌, List, [], ◌∷◌}
use Rattle.lic_norm.specs.Tokens.{TokenValue}
use Rattle.lic_norm.specs.Places.{place_end, place_start}
use Rattle.lic_places.specs.Reads.{BeginsAt}
use Rattle.lic_spans.specs.declared.span.SpanKind.TheVariants.{End, Letters}
use Rattle.lic_spans.specs.declared.span.PlaceSpan.{PlaceSpan}
use Rattle.lic_search.specs.declared.range.Range.{Range}
use Rattle.lic_view.specs.PlaceSets.{Reaches}

-- a word that begins with this token may begin at a place of the spans that has this last token
pub record BeginsIn (tokens : List TokenValue) (spans : List PlaceSpan) (first last : ℕ) : Type 0 where
  pub order : first ≤ last
  pub place : ℕ
  pub reached : Reaches tokens spans place last
  pub begins : BeginsAt tokens first place

-- of the ranges that begin in the span this one begins last
pub record IsLastBeginning (tokens : List TokenValue) (span : PlaceSpan) (range : Range) : Type 0 where
  pub last : range.last ≡ span.last
  pub begins : BeginsIn tokens (span ∷ []) range.first span.last
  pub greatest : (first : ℕ) → BeginsIn tokens (span ∷ []) first span.last → first ≤ range.first
  pub from : (first : ℕ) → BeginsIn tokens (span ∷ []) first span.last → span.low ≤ place_start tokens first
  pub all : (first : ℕ) → first ≤ range.first → span.low ≤ place_start tokens first → BeginsIn tokens (span ∷ []) first span.last

-- the tokens with which words begin at places of the span are those from the low one to the high one
pub record AreFirsts (tokens : List TokenValue) (span firsts : PlaceSpan) : Type 0 where
  pub kind : firsts.kind ≡ Letters
  pub last : firsts.last ≡ span.last
  pub order : firsts.low ≤ firsts.high
  pub exact : (first : ℕ) → BeginsIn tokens (span ∷ []) first span.last ↔ ((firsts.low ≤ first) × (first ≤ firsts.high))

-- the span is the end of the token, where nothing was taken yet
pub record IsEndOf (tokens : List TokenValue) (last : ℕ) (span : PlaceSpan) : Type 0 where
  pub kind : span.kind ≡ End
  pub low : span.low ≡ place_end tokens last
  pub high : span.high ≡ place_end tokens last
  pub last_is : span.last ≡ last

-- the place lies from the one to the other
pub record LiesWithin (low high place : ℕ) : Type 0 where
  pub from : low ≤ place
  pub to : place ≤ high
