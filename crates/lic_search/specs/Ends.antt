-- How far words of a template reach, and which tokens end within reach of one of its texts.
use Rattle.std.specs.Prelude.{ℕ, ◌+◌, ◌≤◌, ◌<◌, List, length, Contains, Option, Some, None}
use Rattle.std.specs.List.Sorted.{IsStrictlyIncreasing}
use Rattle.lic_words.specs.Words.{Word}
use Rattle.lic_words.specs.Expressions.{Expression, Language}
use Rattle.lic_markup.specs.declared.part.Part.{Part}
use Rattle.lic_norm.specs.Tokens.{TokenValue}
use Rattle.lic_keys.specs.Required.{HoldEnds}
use Rattle.lic_keys.specs.declared.required_ends.RequiredEnds.{RequiredEnds}
use Rattle.lic_places.specs.Reads.{Reads}
use Rattle.lic_spans.specs.declared.span.PlaceSpan.{PlaceSpan}
use Rattle.lic_search.specs.Beginnings.{IsEndOf}

-- each word has at most `most` letters
pub record HasAtMost (words : Expression) (most : ℕ) : Type 0 where
  pub letters : (w : Word) → Language words w → length w ≤ most

-- each word ends at most `most` bytes after the place where it begins
pub record TakesAtMost (words : Expression) (most : ℕ) : Type 0 where
  pub bytes : (tokens : List TokenValue) (w : Word) (p q : ℕ) → Language words w → Reads tokens p w q → q ≤ p + most

-- some span is the end of the token
pub record ListsEnd (tokens : List TokenValue) (ends : List PlaceSpan) (last : ℕ) : Type 0 where
  pub span : PlaceSpan
  pub among : Contains ends span
  pub is : IsEndOf tokens last span

-- each span is the end of a token
abbrev pub AreTokenEnds : List TokenValue → List PlaceSpan → Type 0
AreTokenEnds tokens ends = (span : PlaceSpan) → Contains ends span → (last : ℕ) × (last < length tokens) × IsEndOf tokens last span

-- the ends of the tokens from one up to another were added
pub record AddsEnds (tokens : List TokenValue) (first next : ℕ) (old new : List PlaceSpan) : Type 0 where
  pub ends : AreTokenEnds tokens old → AreTokenEnds tokens new
  pub kept : (last : ℕ) → ListsEnd tokens old last → ListsEnd tokens new last
  pub added : (last : ℕ) → first ≤ last → last < next → ListsEnd tokens new last

-- where they are known, these are places that hold each at which a text of the parts ends
abbrev pub AreRequiredEnds : List ℕ → List Part → Option RequiredEnds → Type 0
AreRequiredEnds bytes parts None = Unit {0}
AreRequiredEnds bytes parts (Some ends) = HoldEnds bytes parts ends.part ends.places.items × IsStrictlyIncreasing ends.places.items
