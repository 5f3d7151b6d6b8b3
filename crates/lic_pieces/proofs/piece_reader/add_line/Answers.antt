use Rattle.std.proofs.Common.{sym, ◌∙◌}
use Rattle.lic_kind.specs.LineRules.{rules_of}
use Rattle.lic_lines.specs.Cells.{line_cells}
use Rattle.lic_lines.specs.Streaks.{streaks_joined}
use Rattle.lic_pieces.proofs.EdgeLemmas.{ends_blank, HasEdges-blank}
use Rattle.lic_pieces.proofs.piece_reader.add_line.Goals as goal

pub returns-then-ends_in_feed : goal.returns-then-ends_in_feed
returns-then-ends_in_feed c = λ before has.
    let rules = rules_of c.args.rules.now in
    let feed = sym c.ends_in_feed.ensures ∙ c.if-ends_in_feed.true in
    let blank = ends_blank rules c.args.part c.args.line.now feed (c.requires feed) in
    HasEdges-blank c.args.edges.now before (streaks_joined rules (line_cells rules c.args.part c.args.line.now)) blank.0 c.if-edges.true blank.1 has
