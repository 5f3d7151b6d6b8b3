use Rattle.std.proofs.Common.{true, refl, sym, subst}
use Rattle.std.specs.Prelude.{nat_lt}
use Rattle.std.proofs.lemmas.Str.{chars-IsAscii}
use Rattle.lic_kind.specs.LineRules.{rules_of}
use Rattle.lic_lines.specs.Cells.{cells_of}
use Rattle.lic_lines.specs.Streaks.{streaks_joined}
use Rattle.lic_trim.specs.Sources.{placed, unplaced}
use Rattle.lic_pieces.specs.Edges.{HasEdges}
use Rattle.lic_pieces.specs.declared.cell_edges.Edges.{Edges}
use Rattle.lic_pieces.proofs.EndedLines.{some_token}
use Rattle.lic_pieces.proofs.LineBegins.{edges-ended}
use Rattle.lic_pieces.proofs.piece_reader.PieceReader.take_ended.Goals as goal

pub returns-clause-edges : goal.returns-clause-edges
returns-clause-edges c = λ before has.
    let rules = rules_of c.args.rules.now in
    let text = c.args.text.now in
    let edges : Edges = record {
      begins_in_blank = c.args.blank;
      ends_in_blank = true;
      has_text = nat_lt 0 c.in_ok-count.count;
    } in
    let here = edges-ended rules edges text c.requires.ended.0 c.requires.ended.1 (sym c.requires.begins) refl
    (some_token (streaks_joined rules (cells_of rules (placed 0 text))) c.in_ok-count.count (sym c.in_ok-count.ensures.count)) in
    c.add.ensures before _ has (subst (λ l. HasEdges edges (streaks_joined rules (cells_of rules (unplaced l)))) (sym (chars-IsAscii text c.requires.ascii)) here)
