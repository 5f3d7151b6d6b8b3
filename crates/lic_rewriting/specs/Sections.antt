-- Tokens of lines, by the offsets where they begin and end.
use Rattle.std.specs.Prelude.{◌≡◌, ℕ, ◌+◌, ◌<◌, ◌≤◌, ◌&&◌, Bool, false, true, List, [], ◌∷◌, codes, length, slice_index, slice_index_or, ◌-◌, IsUtf8}
use Rattle.std.specs.Str.{IsCharBoundary}
use Rattle.lic_lines.specs.Tokens.{Token, is_sign_in_parentheses, is_text}
use Rattle.lic_columns.specs.PlainLines.{HasWords}
use Rattle.lic_columns.specs.SpanTokens.{span_tokens, spans_by}
use Rattle.lic_columns.specs.TokenOffsets.{TokenOffsets}

-- each token has some of these letters, whole characters, where the first letter is at this byte of the input
pub record AreTokenOffsets (at : ℕ) (offsets : TokenOffsets) : Type 0 where
  pub utf8 : IsUtf8 offsets.letters
  pub words : HasWords offsets.letters
  pub paired : length offsets.ends ≡ length offsets.starts
  pub from : (i : ℕ) → i < length offsets.starts → at ≤ slice_index offsets.starts i
  pub some : (i : ℕ) → i < length offsets.starts → slice_index offsets.starts i < slice_index offsets.ends i
  pub to : (i : ℕ) → i < length offsets.starts → slice_index offsets.ends i ≤ at + length offsets.letters
  pub begin : (i : ℕ) → i < length offsets.starts → IsCharBoundary offsets.letters (slice_index offsets.starts i - at)
  pub end : (i : ℕ) → i < length offsets.starts → IsCharBoundary offsets.letters (slice_index offsets.ends i - at)

-- they are, and at least 16 letters come from each letter before this number on
pub record IsSection (at wide : ℕ) (offsets : TokenOffsets) : Type 0 where
  pub are : AreTokenOffsets at offsets
  pub long : (n : ℕ) → n < wide → n + 16 ≤ length offsets.letters

-- the tokens that have these letters
abbrev pub tokens_at : ℕ → TokenOffsets → List Token
tokens_at at offsets = span_tokens true at at offsets.letters (spans_by offsets.starts offsets.ends)

-- these have the texts and the bytes of the source of those tokens, from the number `i` on
pub record AreFrom (tokens : List Token) (i : ℕ) (rest : List Token) : Type 0 where
  pub count : i + length rest ≡ length tokens
  pub texts : (k : ℕ) (d : Token) → k < length rest → (slice_index_or rest k d).text ≡ (slice_index_or tokens (i + k) d).text
  pub starts : (k : ℕ) (d : Token) → k < length rest → (slice_index_or rest k d).start ≡ (slice_index_or tokens (i + k) d).start
  pub ends : (k : ℕ) (d : Token) → k < length rest → (slice_index_or rest k d).end ≡ (slice_index_or tokens (i + k) d).end

-- the first three tokens are `(`, `c` and `)`, unbroken
abbrev pub begins_sign : List Token → Bool
begins_sign [] = false
begins_sign (a ∷ []) = false
begins_sign (a ∷ b ∷ []) = false
begins_sign (a ∷ b ∷ c ∷ tokens) = is_sign_in_parentheses a b c

-- the first two are `(` and `c`
abbrev pub may_begin_sign : List Token → Bool
may_begin_sign [] = false
may_begin_sign (a ∷ []) = false
may_begin_sign (a ∷ b ∷ tokens) = is_text (codes "(") a && is_text (codes "c") b
