-- What is read of lines of ASCII: the letters, and where their first tokens begin and end.
use Rattle.std.proofs.Common.{◌≡◌, ℕ, ◌+◌, ◌<◌, ◌≤◌, Bool, true, List, length, map, get_or, sym, ap, ap₂, ◌∙◌, arith, subst}
use Rattle.std.specs.Prelude.{IsAscii, slice_index}
use Rattle.std.proofs.lemmas.List.{length-map}
use Rattle.std.proofs.lemmas.List.FromFn.{length-map-range_with_len}
use Rattle.lic_kind.specs.LineRules.{LineRules}
use Rattle.lic_lines.specs.Cells.{cells_of}
use Rattle.lic_lines.specs.Streaks.{streaks_joined}
use Rattle.lic_trim.specs.Sources.{placed}
use Rattle.lic_lines.specs.Tokens.{first_tokens}
use Rattle.lic_letters.specs.Bytes.{letter}
use Rattle.lic_columns.specs.Cells.{Cell, cell_of, spans, starts_of, ends_of}
use Rattle.lic_columns.specs.Edges.{byte_lines, lines_blanked}
use Rattle.lic_columns.specs.Known.{Known, IsText, known_of}
use Rattle.lic_columns.specs.Marks.{joined_marks}
use Rattle.lic_columns.specs.Masks.{flag_at}
use Rattle.lic_columns.specs.SpanTokens.{span_tokens, spans_by}
use Rattle.lic_columns.specs.Tokens.{kept_marks, text_cells, text_spans}
use Rattle.lic_columns.proofs.AsciiLetters.{letters_ascii}
use Rattle.lic_columns.proofs.EdgesOfLines.{lines_tokens_are, IsText-lines, letters-lines}
use Rattle.lic_columns.proofs.SpanTokenLemmas.{spans_by-own, spans_bounded, bounded_at, length-ends}
use Rattle.lic_columns.proofs.TextLemmas.{IsText-known_of}

module _ (rules : LineRules) (at : ℕ) (text : List ℕ) (known : Known) (is : known ≡ lines_blanked rules 0 (byte_lines text) (known_of text)) where
  pub cleared_text : IsText (length text) known
  cleared_text = subst (IsText (length text)) (sym is) (IsText-lines rules (length text) 0 (byte_lines text) (known_of text) (IsText-known_of text))

  pub cleared_letters : known.letters ≡ map letter text
  cleared_letters = ap (λ (k : Known). k.letters) is ∙ letters-lines rules 0 (byte_lines text) (known_of text)

  pub cleared_ascii : IsAscii text → IsAscii known.letters
  cleared_ascii ascii = subst IsAscii (sym cleared_letters) (letters_ascii text ascii)

  abbrev kept : List Bool
  kept = kept_marks rules.separators text known

  abbrev cells : List Cell
  cells = text_cells rules.separators text known

  module _ (letters starts ends : List ℕ) (letters_are : letters ≡ known.letters) (starts_are : starts ≡ starts_of (text_spans rules.separators at text known))
      (ends_are : ends ≡ ends_of (text_spans rules.separators at text known)) where
    pub letters_of_text : letters ≡ map letter text
    letters_of_text = letters_are ∙ cleared_letters

    pub letters_are_ascii : IsAscii text → IsAscii letters
    letters_are_ascii ascii = subst IsAscii (sym letters_are) (cleared_ascii ascii)

    pub as_long : length letters ≡ length text
    as_long = ap length letters_of_text ∙ length-map text letter

    pub paired : length ends ≡ length starts
    paired = ap length ends_are ∙ length-ends (spans at cells) ∙ sym (ap length starts_are)

    long_cells : length cells ≡ length letters
    long_cells =
        length-map-range_with_len (λ k. cell_of (flag_at known.word k) (flag_at kept k) (flag_at (joined_marks known.letters kept) k)) 0 (length known.word)
        ∙ cleared_text.whole.word ∙ sym as_long

    pub bounds : (i : ℕ) → i < length starts
        → (at ≤ slice_index starts i) × (slice_index starts i < slice_index ends i) × (slice_index ends i ≤ at + length letters)
    bounds i lt =
        let b = bounded_at at (at + length cells) (spans at cells) (spans_bounded at cells) i (omega (arith, ap length starts_are)) in
        let start = ap (λ l. get_or l i 0) starts_are in
        let end = ap (λ l. get_or l i 0) ends_are in
        (omega (arith, b.0, start), omega (arith, b.1, start, end), omega (arith, b.2, end, long_cells))

    pub tokens_of_text : IsAscii text → span_tokens true at at letters (spans_by starts ends)
        ≡ first_tokens (streaks_joined rules (cells_of rules (placed at text)))
    tokens_of_text ascii =
        ap (λ l. span_tokens true at at l (spans_by starts ends)) letters_of_text
        ∙ ap₂ (λ s e. span_tokens true at at (map letter text) (spans_by s e)) starts_are ends_are
        ∙ ap (span_tokens true at at (map letter text)) (spans_by-own (spans at cells))
        ∙ ap (λ k. span_tokens true at at (map letter text) (text_spans rules.separators at text k)) is
        ∙ lines_tokens_are rules at text ascii
