-- The tokens of lic_lines that the spans of a text have.
use Rattle.std.specs.Prelude.{ℕ, ◌-◌, Bool, false, ◌||◌, nat_lt, if◌then◌else◌, List, [], ◌∷◌, slice_range}
use Rattle.lic_lines.specs.Tokens.{Token}
use Rattle.lic_columns.specs.Cells.{Span}
use Rattle.lic_columns.specs.Marks.{is_joining}

-- the text of the token that has these letters: quotes side by side are one quote, and dashes one dash
abbrev pub token_text : List ℕ → List ℕ
token_text [] = []
token_text (l ∷ letters) = if is_joining l then l ∷ [] else l ∷ letters

-- the token of a span of a text that begins at this offset and has these letters, where a blank comes before the text or does not;
-- the token before it, or what comes before the text, ends at an offset
abbrev pub span_token : Bool → ℕ → ℕ → List ℕ → Span → Token
span_token after_blank at before letters s = record {
  text = token_text (slice_range letters (s.start - at) (s.end - at));
  start = s.start;
  end = s.end;
  after_blank = after_blank || nat_lt before s.start;
}

-- the tokens of these spans
abbrev pub span_tokens : Bool → ℕ → ℕ → List ℕ → List Span → List Token
span_tokens after_blank at before letters [] = []
span_tokens after_blank at before letters (s ∷ spans) =
    span_token after_blank at before letters s ∷ span_tokens false at s.end letters spans

-- the spans that begin at these offsets and end at those
abbrev pub spans_by : List ℕ → List ℕ → List Span
spans_by [] ends = []
spans_by (s ∷ starts) [] = []
spans_by (s ∷ starts) (e ∷ ends) = record { start = s; end = e } ∷ spans_by starts ends
