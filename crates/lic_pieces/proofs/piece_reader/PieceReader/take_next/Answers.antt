use Rattle.std.specs.Str.{chars}
use Rattle.lic_kind.specs.LineRules.{rules_of}
use Rattle.lic_lines.specs.Cells.{cells_of}
use Rattle.lic_lines.specs.Streaks.{streaks_joined}
use Rattle.lic_trim.specs.Sources.{unplaced}
use Rattle.lic_norm.specs.Tokens.{first_tokens_of}
use Rattle.lic_pieces.proofs.EndedLines.{start_boundary, start_cells, start_tokens}
use Rattle.lic_pieces.proofs.piece_reader.PieceReader.take_next.Goals as goal

pub returns-clause-boundary : goal.returns-clause-boundary
returns-clause-boundary c =
    let lines = c.in-Some.ensures in
    start_boundary c.args.text.now c.in-Some.lines.now c.utf8.text lines.start lines.utf8

pub returns-clause-edges : goal.returns-clause-edges
returns-clause-edges c = λ cells has.
    let rules = rules_of c.args.rules.now in
    let lines = c.in-Some.ensures in (
      streaks_joined rules (cells_of rules (unplaced (chars c.in-Some.lines.now))),
      c.in_ok-take_ended.ensures.edges cells has,
      start_cells rules c.args.has_front c.args.before c.args.text.now c.in-Some.lines.now lines.ended.0 lines.front lines.start lines.utf8 lines.ascii
          lines.ended.1,
    )

pub returns-clause-taken : goal.returns-clause-taken
returns-clause-taken c = λ taken has.
    let rules = rules_of c.args.rules.now in
    let lines = c.in-Some.ensures in (
      first_tokens_of rules 0 c.in-Some.lines.now,
      c.in_ok-take_ended.ensures.taken taken has,
      start_tokens rules c.args.has_front c.args.before c.args.text.now c.in-Some.lines.now lines.ended.0 lines.front lines.start lines.utf8 lines.ascii
          lines.ended.1,
    )
