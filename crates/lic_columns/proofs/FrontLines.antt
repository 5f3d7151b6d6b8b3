-- The tokens of lines of simple characters at the start of bytes.
use Rattle.std.proofs.Common.{◌≡◌, ℕ, ◌+◌, ◌-◌, ◌<◌, ◌≤◌, Bool, true, List, length, map, get_or, refl, sym, ap, ap₂, subst, ◌∙◌, arith}
use Rattle.std.specs.Prelude.{chars, IsUtf8, slice_index}
use Rattle.std.specs.Str.{IsCharBoundary}
use Rattle.std.proofs.lemmas.List.{length-map}
use Rattle.std.proofs.lemmas.Str.{encodes-chars}
use Rattle.lic_kind.specs.LineRules.{LineRules}
use Rattle.lic_letters.specs.Bytes.{letter, is_word, is_mark}
use Rattle.lic_columns.specs.Cells.{AreCells, Span, cells_of, spans, starts_of, ends_of}
use Rattle.lic_columns.specs.Known.{IsText, known_of}
use Rattle.lic_columns.specs.Marks.{HaveLetters, joined_marks}
use Rattle.lic_columns.specs.PlainLines.{ArePlainLines, HaveFirstTokens}
use Rattle.lic_letters.specs.Simple.{IsSpelled, all_in_place}
use Rattle.lic_columns.specs.SpanTokens.{span_tokens, spans_by}
use Rattle.lic_columns.specs.Tokens.{kept_marks, text_spans}
use Rattle.lic_letters.proofs.InPlace.{offsets_size}
use Rattle.lic_columns.proofs.Borders.{starts_between, ends_between}
use Rattle.lic_columns.proofs.CellLemmas.{length-cells}
use Rattle.lic_columns.proofs.ColumnLemmas.{kept_is_mark}
use Rattle.lic_columns.proofs.LetterTexts.{letters_are_utf8, letters_of_words}
use Rattle.lic_columns.proofs.MarkLemmas.{joined_are_cells}
use Rattle.lic_columns.proofs.SimpleLetters.{simple_letters}
use Rattle.lic_columns.proofs.SimpleLines.{simple_lines_are}
use Rattle.lic_columns.proofs.SpanTokenLemmas.{spans_by-own, spans_bounded, bounded_at, length-ends}
use Rattle.lic_columns.proofs.TextLemmas.{IsText-known_of, kept_length, kept_are_apart}

module _ (text spelled : List ℕ) (is : IsSpelled text spelled) where
  abbrev source : List ℕ
  source = chars text

  pub as_long : length spelled ≡ length text
  as_long = ap length is.is ∙ sym (offsets_size source is.simple) ∙ ap length (encodes-chars text is.utf8)

  pub is_text : IsText (length text) (known_of spelled)
  is_text = subst (λ n. IsText n (known_of spelled)) as_long (IsText-known_of spelled)

  pub have_letters : HaveLetters text (map letter spelled) (map is_mark spelled)
  have_letters =
      subst (λ s. HaveLetters text (map letter s) (map is_mark s)) (sym is.is)
      (subst (λ t. HaveLetters t (map letter (all_in_place source)) (map is_mark (all_in_place source))) (encodes-chars text is.utf8)
      (simple_letters source is.simple))

  pub letters_utf8 : IsUtf8 (map letter spelled)
  letters_utf8 = subst (λ s. IsUtf8 (map letter s)) (sym is.is) (letters_are_utf8 source is.simple)

  module _ (rules : LineRules) (at : ℕ) (lines : ArePlainLines rules text) (letters starts ends : List ℕ)
      (letters_are : letters ≡ map letter spelled) (starts_are : starts ≡ starts_of (text_spans rules.separators at text (known_of spelled)))
      (ends_are : ends ≡ ends_of (text_spans rules.separators at text (known_of spelled))) where
    abbrev kept : List Bool
    kept = kept_marks rules.separators text (known_of spelled)

    abbrev joined : List Bool
    joined = joined_marks (map letter spelled) kept

    cells_are : AreCells (map is_word spelled) kept joined
    cells_are =
        joined_are_cells (map letter spelled) (map is_word spelled) kept (kept_length (length text) (known_of spelled) is_text text rules.separators)
        (kept_are_apart (length text) (known_of spelled) is_text text rules.separators)

    abbrev found : List Span
    found = spans at (cells_of (map is_word spelled) kept joined)

    long : length letters ≡ length text
    long = ap length letters_are ∙ length-map spelled letter ∙ as_long

    long_cells : length (cells_of (map is_word spelled) kept joined) ≡ length letters
    long_cells = length-cells (map is_word spelled) kept joined cells_are ∙ length-map spelled is_word ∙ as_long ∙ sym long

    many : length ends ≡ length starts
    many = ap length ends_are ∙ length-ends found ∙ sym (ap length starts_are)

    bounds : (i : ℕ) → i < length starts
        → (at ≤ slice_index starts i) × (slice_index starts i < slice_index ends i) × (slice_index ends i ≤ at + length letters)
    bounds i lt =
        let cells = cells_of (map is_word spelled) kept joined in
        let b = bounded_at at (at + length cells) found (spans_bounded at cells) i (omega (arith, lt, ap length starts_are)) in
        let start = ap (λ l. get_or l i 0) starts_are in
        let end = ap (λ l. get_or l i 0) ends_are in
        (omega (arith, b.0, start), omega (arith, b.1, start, end), omega (arith, b.2, end, long_cells))

    begins : (i : ℕ) → i < length starts → IsCharBoundary letters (slice_index starts i - at)
    begins i lt =
        let offset : get_or (starts_of found) i 0 - at ≡ slice_index starts i - at = ap (λ l. get_or l i 0 - at) (sym starts_are) in
        subst (λ l. IsCharBoundary l (slice_index starts i - at)) (sym letters_are)
        (subst (IsCharBoundary (map letter spelled)) offset
        (starts_between spelled letters_utf8 (map is_word spelled) kept joined refl (kept_is_mark rules.separators text (map is_mark spelled)) cells_are at i
        (omega (arith, lt, ap length starts_are))))

    stops : (i : ℕ) → i < length starts → IsCharBoundary letters (slice_index ends i - at)
    stops i lt =
        let offset : get_or (ends_of found) i 0 - at ≡ slice_index ends i - at = ap (λ l. get_or l i 0 - at) (sym ends_are) in
        subst (λ l. IsCharBoundary l (slice_index ends i - at)) (sym letters_are)
        (subst (IsCharBoundary (map letter spelled)) offset
        (ends_between spelled letters_utf8 (map is_word spelled) kept joined refl (kept_is_mark rules.separators text (map is_mark spelled)) cells_are at i
        (omega (arith, lt, many, ap length ends_are))))

    pub have_tokens : HaveFirstTokens rules at text (record { letters = letters; starts = starts; ends = ends })
    have_tokens = record {
      utf8 = subst IsUtf8 (sym letters_are) letters_utf8;
      words = letters_of_words source letters is.simple (subst IsUtf8 (sym letters_are) letters_utf8) (letters_are ∙ ap (map letter) is.is);
      long = long;
      paired = many;
      from = λ i lt. (bounds i lt).0;
      some = λ i lt. (bounds i lt).1;
      to = λ i lt. (bounds i lt).2;
      begin = begins;
      end = stops;
      tokens = ap (λ l. span_tokens true at at l (spans_by starts ends)) letters_are
          ∙ ap₂ (λ s e. span_tokens true at at (map letter spelled) (spans_by s e)) starts_are ends_are
          ∙ ap (span_tokens true at at (map letter spelled)) (spans_by-own found)
          ∙ ap (λ s. span_tokens true at at (known_of s).letters (text_spans rules.separators at text (known_of s))) is.is
          ∙ simple_lines_are rules at text is.utf8 is.simple (lines.takes at);
    }
