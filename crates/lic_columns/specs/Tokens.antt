-- The tokens of a text, by what is known of its bytes.
use Rattle.std.specs.Prelude.{ℕ, Bool, List}
use Rattle.lic_columns.specs.Cells.{Cell, cells_of, Span, spans}
use Rattle.lic_columns.specs.Known.{Known}
use Rattle.lic_columns.specs.Marks.{kept_in, joined_marks}

-- the marks of a text that are kept
abbrev pub kept_marks : Bool → List ℕ → Known → List Bool
kept_marks separators bytes known = kept_in separators bytes known.mark

-- what is at each offset once separators are taken out, and quotes and dashes joined
abbrev pub text_cells : Bool → List ℕ → Known → List Cell
text_cells separators bytes known =
    let kept = kept_marks separators bytes known in
    cells_of known.word kept (joined_marks known.letters kept)

-- the tokens of a text that begins at this offset
abbrev pub text_spans : Bool → ℕ → List ℕ → Known → List Span
text_spans separators at bytes known = spans at (text_cells separators bytes known)
