-- The lines of tokens from one number up to another.
use Rattle.std.proofs.Common.{◌≡◌, ℕ, ◌+◌, ◌-◌, ◌≤◌, ◌<◌, List, [], ◌∷◌, ◌++◌, length, take, drop, get_or, sym, ap, ◌∙◌, arith, append-nil, append_assoc, length-drop}
use Rattle.std.proofs.lemmas.Grind.{flat_map-append}
use Rattle.std.proofs.lemmas.List.{get_or-drop, take_more}
use Rattle.std.specs.List.{flat_map, slice_range}
use Rattle.std.specs.Prelude.{decimal}
use Rattle.lic_fields.specs.Fields.{escaped, field}
use Rattle.lic_tokens.specs.declared.token.Span.{Span}
use Rattle.lic_norm.specs.Tokens.{TokenValue}
use Rattle.lic_report.specs.TokenLines.{line_after, lines_between}

module _ (front : List ℕ) (tokens : List TokenValue) where
  -- none
  pub between_none : (i : ℕ) → lines_between front tokens i i ≡ []
  between_none i =
      let none : i - i ≡ 0 = omega arith in
      ap (λ n. flat_map (line_after front) (take n (drop i tokens))) none

  -- one more
  pub between_more : (from i : ℕ) (d : TokenValue) → from ≤ i → i < length tokens
      → lines_between front tokens from (i + 1) ≡ lines_between front tokens from i ++ line_after front (get_or tokens i d)
  between_more from i d order within =
      let longer : i + 1 - from ≡ i - from + 1 = omega (arith, order) in
      let long = length-drop from tokens in
      let same : from + (i - from) ≡ i = omega (arith, order) in
      ap (λ n. flat_map (line_after front) (take n (drop from tokens))) longer
      ∙ (ap (flat_map (line_after front)) (take_more (drop from tokens) (i - from) d (omega (arith, long, order, within)))
      ∙ (flat_map-append (line_after front) (slice_range tokens from i) (get_or (drop from tokens) (i - from) d ∷ [])
      ∙ ap (λ l. lines_between front tokens from i ++ l)
      (append-nil (line_after front (get_or (drop from tokens) (i - from) d))
      ∙ ap (line_after front) (get_or-drop from tokens (i - from) d ∙ ap (λ n. get_or tokens n d) same))))

  -- one alone
  pub between_one : (i : ℕ) (d : TokenValue) → i < length tokens
      → lines_between front tokens i (i + 1) ≡ line_after front (get_or tokens i d)
  between_one i d within =
      between_more i i d (omega arith) within ∙ ap (λ l. l ++ line_after front (get_or tokens i d)) (between_none i)

-- the line of a token, by its fields
pub line_is : (lines front part : List ℕ) (span : Span) (t : TokenValue) (n : ℕ) → span ≡ t.span → take n part ≡ t.text
    → lines ++ (front ++ (field (decimal span.start) 0x09 ++ (field (decimal span.end) 0x09 ++ field (escaped (take n part)) 0x0A)))
    ≡ lines ++ line_after front t
line_is lines front part span t n is_span is_text =
    ap (λ s. lines ++ (front ++ (field (decimal s.start) 0x09 ++ (field (decimal s.end) 0x09 ++ field (escaped (take n part)) 0x0A)))) is_span
    ∙ ap (λ x. lines ++ (front ++ (field (decimal t.span.start) 0x09 ++ (field (decimal t.span.end) 0x09 ++ field (escaped x) 0x0A)))) is_text

-- one line more is written after those of a number of tokens
pub lines_more : (written lines front : List ℕ) (tokens : List TokenValue) (from i : ℕ) (d : TokenValue) → from ≤ i → i < length tokens
    → written ≡ lines ++ lines_between front tokens from i
    → written ++ line_after front (get_or tokens i d) ≡ lines ++ lines_between front tokens from (i + 1)
lines_more written lines front tokens from i d order within is =
    ap (λ l. l ++ line_after front (get_or tokens i d)) is
    ∙ (append_assoc lines (lines_between front tokens from i) (line_after front (get_or tokens i d))
    ∙ ap (λ l. lines ++ l) (sym (between_more front tokens from i d order within)))
