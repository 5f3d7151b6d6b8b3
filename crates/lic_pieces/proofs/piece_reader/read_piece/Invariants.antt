use Rattle.std.proofs.Common.{◌≡◌, ◌-◌, ◌++◌, List, length, drop, map}
use Rattle.std.specs.Str.{IsCharBoundary}
use Rattle.lic_kind.specs.LineRules.{rules_of}
use Rattle.lic_lines.specs.Tokens.{Token}
use Rattle.lic_lines.specs.declared.cell.Cell.{Cell}
use Rattle.lic_pieces.specs.Edges.{HasEdges}
use Rattle.lic_pieces.specs.Pieces.{bare_token, piece_cells, piece_tokens}
use Rattle.lic_norm.specs.Taking.{HasTaken, phrases_of}
use Rattle.lic_pieces.proofs.piece_reader.read_piece.Given as goal

-- the edges of the list and the tokens of the lines so far, and those of what follows them
abbrev pub invariant-loop-at : goal.invariant-loop-at
invariant-loop-at l = record {
  edges : (cells : List Cell) × HasEdges l.reader.edges cells
      × (cells ++ piece_cells (rules_of l.rules) l.has_front l.before (drop l.at l.text)
      ≡ piece_cells (rules_of l.rules) l.fn.at_line_start l.before l.text);
  taken : (taken : List Token) × HasTaken l.reader.rewriting taken
      × (map bare_token taken ++ piece_tokens (rules_of l.rules) l.has_front l.before (drop l.at l.text)
      ≡ piece_tokens (rules_of l.rules) l.fn.at_line_start l.before l.text);
  phrases : (phrases_of l.reader.rewriting).phrases ≡ l.words;
  boundary : IsCharBoundary l.text l.at;
}

abbrev pub decreases-loop-at : goal.decreases-loop-at
decreases-loop-at l = length l.text - l.at
