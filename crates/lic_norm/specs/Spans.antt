-- Where tokens lie in their source.
use Rattle.std.specs.Prelude.{◌≡◌, ℕ, ◌≤◌, ◌<◌, List, [], ◌∷◌, length, All, Contains}
use Rattle.lic_trim.specs.declared.source.SourceChar.{SourceChar}
pub use Rattle.lic_phrases.specs.TokenTexts.{IsTokenText}
use Rattle.lic_norm.specs.Sources.{source_of}
use Rattle.lic_tokens.specs.Tokens.{TokenValue}
pub use Rattle.lic_tokens.specs.Tokens.{AreTokenTexts, HaveTexts}

-- each span is not empty, and begins no earlier than the one before ends
abbrev pub AreRising : ℕ → List TokenValue → Type 0
AreRising from [] = Unit {0}
AreRising from (t ∷ ts) = (from ≤ t.span.start) × (t.span.start < t.span.end) × AreRising t.span.end ts

-- a source character starts at this byte of the source
abbrev pub StartsAt : List ℕ → ℕ → Type 0
StartsAt source i = (s : SourceChar) × Contains (source_of 0 source) s × (s.start ≡ i)

-- one ends there
abbrev pub EndsAt : List ℕ → ℕ → Type 0
EndsAt source i = (s : SourceChar) × Contains (source_of 0 source) s × (s.end ≡ i)

-- no source character is cut at the ends of a span
abbrev pub IsOnBoundaries : List ℕ → TokenValue → Type 0
IsOnBoundaries source t = StartsAt source t.span.start × EndsAt source t.span.end

-- the spans of tokens in a source
pub record AreSpans (source : List ℕ) (tokens : List TokenValue) : Type 0 where
  pub rising : AreRising 0 tokens
  pub within : All (λ t. t.span.end ≤ length source) tokens
  pub boundaries : All (IsOnBoundaries source) tokens
