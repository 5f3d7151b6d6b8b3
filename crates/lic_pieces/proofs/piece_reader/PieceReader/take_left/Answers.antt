use Rattle.std.proofs.Common.{◌++◌, subst}
use Rattle.lic_kind.specs.LineRules.{rules_of}
use Rattle.lic_lines.specs.Cells.{line_cells}
use Rattle.lic_lines.specs.Streaks.{streaks_joined}
use Rattle.lic_lines.specs.Tokens.{line_tokens}
use Rattle.lic_pieces.specs.Edges.{HasEdges}
use Rattle.lic_norm.specs.Taking.{HasTaken}
use Rattle.lic_pieces.proofs.piece_reader.PieceReader.take_left.Goals as goal

pub returns-clause-edges : goal.returns-clause-edges
returns-clause-edges c = λ cells has.
    let rules = rules_of c.args.rules.now in
    subst (λ part. HasEdges c.add_line.new.edges (cells ++ streaks_joined rules (line_cells rules part c.args.line.now))) c.part_of-part.ensures
    (c.in_ok-add_line.ensures cells has)

pub returns-clause-taken : goal.returns-clause-taken
returns-clause-taken c = λ taken has.
    let rules = rules_of c.args.rules.now in
    subst (λ part. HasTaken c.take_part.new.rewriting (taken ++ line_tokens rules part c.args.line.now)) c.part_of-part.ensures
    (c.in_ok-take_part.ensures.taken taken has)
