-- The letters of a piece of a template's text.
use Rattle.std.specs.Prelude.{ℕ, Bool, true, false, ◌==◌, if◌then◌else◌, List, [], ◌∷◌, ◌++◌, map, reverse, Option, Some, None}
use Rattle.std.specs.Str.{chars}
use Rattle.std.specs.List.{list_all}
use Rattle.lic_trim.specs.Texts.{ends_in}
use Rattle.lic_trim.specs.Sources.{chars_of, unplaced, without_dropped, lines_of}
use Rattle.lic_trim.specs.declared.source.SourceChar.{SourceChar}
use Rattle.lic_trim.specs.declared.line_part.LinePart.{LinePart}
use Rattle.lic_lines.specs.declared.cell.Cell.{Cell}
use Rattle.lic_lines.specs.declared.cell.Cell.TheVariants.{Blank, Mark, Word}
use Rattle.lic_kind.specs.LineRules.{LineRules}
use Rattle.lic_lines.specs.Cells.{line_cells}
use Rattle.lic_lines.specs.Streaks.{streaks_joined}
use Rattle.lic_lines.specs.Tokens.{Token, first_tokens, single_signs}
use Rattle.lic_phrases.specs.Rewriting.{Phrase, rewritten}
use Rattle.lic_phrases.specs.Spelling.{blank_if, spelled}
use Rattle.lic_pieces.specs.declared.pieces.Next.{Next}
use Rattle.lic_pieces.specs.declared.pieces.Next.TheVariants.{LineEnd, Var, Optional}

-- the character that the following rule counts as for the item rule: a variable as a digit, an optional rule as a letter
abbrev pub counts_as : Next → Option ℕ
counts_as LineEnd = None
counts_as Var = Some 0x30
counts_as Optional = Some 0x61

abbrev pub is_line_end : Next → Bool
is_line_end LineEnd = true
is_line_end Var = false
is_line_end Optional = false

abbrev pub ends_in_feed : List SourceChar → Bool
ends_in_feed line = ends_in (λ c. c == 0x0A) (λ front. true) (chars_of line)

-- What is there of a line of a piece. A line that ends in U+000A has its end, and nothing comes after it; the last one may be cut off by a rule.
abbrev pub part_of : Bool → Next → List SourceChar → LinePart
part_of has_front before line =
    if ends_in_feed line then record { has_front = has_front; has_end = true; past = None }
    else record { has_front = has_front; has_end = is_line_end before; past = counts_as before }

-- the cells of lines of which the first may lack its front
abbrev pub cells_of_lines : LineRules → Bool → Next → List (List SourceChar) → List Cell
cells_of_lines rules has_front before [] = []
cells_of_lines rules has_front before (line ∷ lines) =
    line_cells rules (part_of has_front before line) line ++ cells_of_lines rules true before lines

-- the list of blanks, marks and word characters of a piece
unfoldable pub piece_cells : LineRules → Bool → Next → List ℕ → List Cell
piece_cells rules at_line_start before text =
    streaks_joined rules (cells_of_lines rules at_line_start before (lines_of (without_dropped (unplaced (chars text)))))

-- its tokens before the rewriting
unfoldable pub piece_tokens : LineRules → Bool → Next → List ℕ → List Token
piece_tokens rules at_line_start before text = single_signs (first_tokens (piece_cells rules at_line_start before text))

-- a token without its span, as those of a piece are
abbrev pub bare_token : Token → Token
bare_token t = record { text = t.text; start = 0; end = 0; after_blank = t.after_blank }

abbrev pub is_blank : Cell → Bool
is_blank Blank = true
is_blank (Mark s) = false
is_blank (Word s) = false

abbrev pub begins_in_blank : List Cell → Bool
begins_in_blank [] = false
begins_in_blank (cell ∷ cells) = is_blank cell

abbrev pub ends_in_blank : List Cell → Bool
ends_in_blank cells = begins_in_blank (reverse cells)

-- letters with a blank at each edge where the list begins or ends with one; a list of blanks alone gives one blank
abbrev pub with_edges : List Cell → List ℕ → List ℕ
with_edges cells letters =
    if list_all is_blank cells then blank_if (begins_in_blank cells)
    else blank_if (begins_in_blank cells) ++ letters ++ blank_if (ends_in_blank cells)

-- the letters of a piece: the texts of its tokens in canonical spelling, between its edges
unfoldable pub piece_of : LineRules → List Phrase → Bool → Next → List ℕ → List ℕ
piece_of rules words at_line_start before text =
    with_edges (piece_cells rules at_line_start before text)
    (spelled (map (λ t. t.text) (rewritten words (piece_tokens rules at_line_start before text))))
