-- What a list of cells has at its edges.
use Rattle.std.specs.Prelude.{◌≡◌, Bool, true, false, not, List, [], ◌∷◌}
use Rattle.std.specs.List.{list_all}
use Rattle.lic_trim.specs.declared.source.SourceChar.{SourceChar}
use Rattle.lic_lines.specs.declared.cell.Cell.{Cell}
use Rattle.lic_lines.specs.declared.cell.Cell.TheVariants.{Blank, Word}
use Rattle.lic_pieces.specs.Pieces.{is_blank, begins_in_blank, ends_in_blank}
use Rattle.lic_pieces.specs.declared.cell_edges.Edges.{Edges}

abbrev pub is_empty : List Cell → Bool
is_empty [] = true
is_empty (cell ∷ cells) = false

-- these are its edges
pub record HasEdges (edges : Edges) (cells : List Cell) : Type 0 where
  pub begins : edges.begins_in_blank ≡ begins_in_blank cells
  pub ends : edges.ends_in_blank ≡ ends_in_blank cells
  pub text : edges.has_text ≡ not (list_all is_blank cells)

-- these cells begin in a blank, or in a word character
abbrev pub BeginAs : Bool → List Cell → Type 0
BeginAs true cells = (others : List Cell) × (cells ≡ Blank ∷ others)
BeginAs false cells = (s : SourceChar) × (others : List Cell) × (cells ≡ Word s ∷ others)
