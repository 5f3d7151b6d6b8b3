-- What is known of one span of a set of places.
use Rattle.std.proofs.Common.{ℕ, ◌<◌, ◌≤◌, List, [], ◌∷◌, length, refl, arith}
use Rattle.lic_tokens.specs.Tokens.{TokenValue}
use Rattle.lic_tokens.specs.Places.{place_end}
use Rattle.lic_places.specs.Places.{spelling_of}
use Rattle.lic_spans.specs.Spans.{Holds}
use Rattle.lic_spans.specs.declared.span.SpanKind.{SpanKind}
use Rattle.lic_spans.specs.declared.span.SpanKind.TheVariants.{End, Place, Letters, Blanks}
use Rattle.lic_spans.specs.declared.span.PlaceSpan.{PlaceSpan}
use Rattle.lic_view.specs.PlaceSets.{ArePlaced, LiesBefore}
use Rattle.lic_view.proofs.ViewPlaces.{end-within}

-- each number of one span is held
pub Holds-one : (span : PlaceSpan) (number : ℕ) → span.low ≤ number → number ≤ span.high → Holds (span ∷ []) span.kind number span.last
Holds-one span number from to = record { span = span; among = (0, omega arith, refl); kind_is = refl; from = from; to = to; last_is = refl }

-- a number lies before the end of its last token or at it
pub front-to : (tokens : List TokenValue) (kind : SpanKind) (number last : ℕ) → LiesBefore tokens kind number last → number ≤ place_end tokens last
front-to tokens End number last at = omega arith
front-to tokens Place number last front = omega arith
front-to tokens Letters number last front = omega arith
front-to tokens Blanks number last front = omega arith

-- the last token of one span
pub last-one : (tokens : List TokenValue) (span : PlaceSpan) → ArePlaced tokens (span ∷ []) → span.last < length tokens
last-one tokens span placed = placed.last 0 span (omega arith)

-- the numbers of a span lie in the text
pub within-one : (tokens : List TokenValue) (span : PlaceSpan) (number : ℕ) → ArePlaced tokens (span ∷ []) → span.low ≤ number → number ≤ span.high
    → number ≤ length (spelling_of tokens)
within-one tokens span number placed from to =
    let front = placed.front span.kind number span.last (Holds-one span number from to) in
    omega (arith, front-to tokens span.kind number span.last front, end-within tokens span.last (last-one tokens span placed))
