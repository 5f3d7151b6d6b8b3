-- Going back over words: from places where they end to those where they begin.
use Rattle.std.specs.Prelude.{◌≡◌, ◌++◌, [], ◌∷◌, ℕ, ◌≤◌, List, All}
use Rattle.lic_words.specs.Words.{Word}
use Rattle.lic_tokens.specs.Tokens.{TokenValue}
use Rattle.lic_tokens.specs.Places.{place_end}
use Rattle.lic_places.specs.Reads.{Reads}
use Rattle.lic_spans.specs.Spans.{Holds}
use Rattle.lic_spans.specs.declared.span.SpanKind.{SpanKind}
use Rattle.lic_spans.specs.declared.span.PlaceSpan.{PlaceSpan}
use Rattle.lic_view.specs.PlaceSets.{ArePlaced, Reaches}
use Rattle.lic_view.specs.declared.sets.keep.Keep.{Keep}
use Rattle.lic_view.specs.declared.sets.keep.Keep.TheVariants.{Least, Each}

-- each last token is kept
abbrev pub IsEach : Keep → Type 0
IsEach Least = ⊥
IsEach (Each most) = Unit {0}

-- At this place the one last token is as good as the other: no greater, and if no letter was taken with it or each is kept, it is the other.
pub record Beats (keep : Keep) (tokens : List TokenValue) (p other last : ℕ) : Type 0 where
  pub least : other ≤ last
  pub taken : p ≡ place_end tokens other → other ≡ last
  pub each : IsEach keep → other ≡ last

-- The spans have the places from which a word of the set leads to a place with its last token, each with those last tokens at least that are kept.
pub record IsBackFrom (keep : Keep) (tokens : List TokenValue) (P : Word → Type 0) (Ends : ℕ → ℕ → Type 0) (begins : List PlaceSpan) : Type 0 where
  pub placed : ArePlaced tokens begins
  pub sound : (p last : ℕ) → Reaches tokens begins p last
      → (q : ℕ) × Ends q last × (w : Word) × P w × Reads tokens p w q
  pub complete : (p q last : ℕ) (w : Word) → Ends q last → P w → Reads tokens p w q
      → (other : ℕ) × Beats keep tokens p other last × Reaches tokens begins p other

-- the same from the places of spans
abbrev pub IsBack : Keep → List TokenValue → (Word → Type 0) → List PlaceSpan → List PlaceSpan → Type 0
IsBack keep tokens P ends begins = IsBackFrom keep tokens P (Reaches tokens ends) begins

-- spans were added that have the places from which a word of the set leads to those of the one span
pub record AddsBack (keep : Keep) (tokens : List TokenValue) (P : Word → Type 0) (span : PlaceSpan) (old new : List PlaceSpan) : Type 0 where
  pub more : List PlaceSpan
  pub added : new ≡ old ++ more
  pub back : IsBack keep tokens P (span ∷ []) more

-- the other list has each number of the one with those last tokens at least that are kept, and no other number
pub record Keeps (keep : Keep) (spans found : List PlaceSpan) : Type 0 where
  pub ordered : All (λ s. s.low ≤ s.high) found
  pub sound : (kind : SpanKind) (number last : ℕ) → Holds found kind number last → Holds spans kind number last
  pub kept : (kind : SpanKind) (number last : ℕ) → Holds spans kind number last
      → (other : ℕ) × (other ≤ last) × (IsEach keep → other ≡ last) × Holds found kind number other

-- the same as in AddsBack, and of what is there then those last tokens at least that are kept
pub record AddsKept (keep : Keep) (tokens : List TokenValue) (P : Word → Type 0) (span : PlaceSpan) (old new : List PlaceSpan) : Type 0 where
  pub all : List PlaceSpan
  pub adds : AddsBack keep tokens P span old all
  pub kept : Keeps keep all new
