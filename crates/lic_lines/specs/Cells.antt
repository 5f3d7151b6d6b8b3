-- Cells: what the characters that are left of a line are to the steps that follow.
use Rattle.std.specs.Prelude.{ℕ, zero, suc, ◌+◌, ◌-◌, if◌then◌else◌, List, [], ◌∷◌, ◌++◌, length, take, drop, map}
use Rattle.std.specs.List.{flat_map}
use Rattle.lic_kind.specs.Kinds.{kind_of, is_mark_kind, is_word_kind}
use Rattle.lic_trim.specs.declared.source.SourceChar.{SourceChar}
use Rattle.lic_trim.specs.Sources.{chars_of, without_dropped, lines_of}
use Rattle.lic_kind.specs.LineRules.{LineRules}
use Rattle.lic_trim.specs.declared.line_part.LinePart.{LinePart}
use Rattle.lic_trim.specs.declared.cut.LineCut.{LineCut}
use Rattle.lic_trim.specs.Lines.{whole_line, cut_of}
pub use Rattle.lic_lines.specs.declared.cell.Cell.{Cell}
pub use Rattle.lic_lines.specs.declared.cell.Cell.TheVariants.{Blank, Mark, Word}

-- what a character of the text is to the steps that follow
abbrev pub cell_of : SourceChar → Cell
cell_of s = if is_word_kind (kind_of s.char) then Word s else (if is_mark_kind (kind_of s.char) then Mark s else Blank)

-- a part that is taken and is not empty becomes one blank
abbrev pub blank_for : ℕ → List Cell
blank_for zero = []
blank_for (suc n) = Blank ∷ []

-- the source characters that are left of a line
abbrev pub left_of : LineCut → List SourceChar → List SourceChar
left_of cut line =
    let rest = drop (cut.lead + cut.item) line in
    take (length rest - cut.tail) rest

abbrev pub cells_of_cut : LineCut → List SourceChar → List Cell
cells_of_cut cut line = blank_for cut.lead ++ blank_for cut.item ++ map cell_of (left_of cut line) ++ blank_for cut.tail

-- the cells of a line that has no dropped characters
abbrev pub line_cells : LineRules → LinePart → List SourceChar → List Cell
line_cells rules part line = cells_of_cut (cut_of rules part (chars_of line)) line

-- the cells of a whole text
abbrev pub cells_of : LineRules → List SourceChar → List Cell
cells_of rules text = flat_map (line_cells rules whole_line) (lines_of (without_dropped text))
