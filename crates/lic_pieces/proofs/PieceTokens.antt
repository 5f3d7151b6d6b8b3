-- The texts of a piece's tokens.
use Rattle.std.proofs.Common.{ℕ, Bool, true, List, [], ◌∷◌}
use Rattle.std.specs.Str.{chars}
use Rattle.lic_kind.specs.LineRules.{LineRules}
use Rattle.lic_trim.specs.Sources.{lines_of, unplaced, without_dropped}
use Rattle.lic_trim.specs.declared.source.SourceChar.{SourceChar}
use Rattle.lic_lines.specs.Cells.{line_cells}
use Rattle.lic_norm.specs.Spans.{HaveTexts}
use Rattle.lic_norm.proofs.TokenTexts.{KindsFit, cells-texts, fit-append, fit-line}
use Rattle.lic_pieces.specs.Pieces.{cells_of_lines, part_of, piece_cells, piece_tokens}
use Rattle.lic_pieces.specs.declared.pieces.Next.{Next}

fit-parts : (rules : LineRules) (has_front : Bool) (before : Next) (lines : List (List SourceChar)) → KindsFit (cells_of_lines rules has_front before lines)
fit-parts rules has_front before [] = tt
fit-parts rules has_front before (line ∷ lines) =
    fit-append (line_cells rules (part_of has_front before line) line) (cells_of_lines rules true before lines)
    (fit-line rules (part_of has_front before line) line) (fit-parts rules true before lines)

pub piece-texts : (rules : LineRules) (at_line_start : Bool) (before : Next) (text : List ℕ) → HaveTexts (piece_tokens rules at_line_start before text)
unfolding piece_tokens piece_cells
piece-texts rules at_line_start before text =
    let lines = lines_of (without_dropped (unplaced (chars text))) in
    cells-texts rules true (cells_of_lines rules at_line_start before lines) (fit-parts rules at_line_start before lines)
