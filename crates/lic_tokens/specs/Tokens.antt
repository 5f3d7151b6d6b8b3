-- Tokens as callers see them, and what their texts are.
use Rattle.std.specs.Prelude.{ℕ, List, All}
use Rattle.lic_lines.specs.Tokens.{Token}
use Rattle.lic_phrases.specs.Rewriting.{SpannedText}
use Rattle.lic_phrases.specs.TokenTexts.{IsTokenText}
use Rattle.lic_tokens.specs.declared.token.Span.{Span}

-- a token: its text in UTF-8, and the bytes of the input that it was made from
pub record TokenValue : Type 0 where
  pub text : List ℕ
  pub span : Span

-- a token of the rewriting as callers see it
abbrev pub reported : SpannedText → TokenValue
reported t = record { text = t.text; span = record { start = t.start; end = t.end } }

-- the texts of tokens
abbrev pub AreTokenTexts : List TokenValue → Type 0
AreTokenTexts tokens = All (λ t. IsTokenText t.text) tokens

-- and of tokens before the rewriting
abbrev pub HaveTexts : List Token → Type 0
HaveTexts tokens = All (λ t. IsTokenText t.text) tokens
