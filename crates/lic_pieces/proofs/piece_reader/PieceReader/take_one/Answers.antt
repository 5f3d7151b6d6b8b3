use Rattle.std.proofs.Common.{◌≡◌, ◌-◌, ◌++◌, true, ap, sym, take, drop, map, ◌∙◌, arith}
use Rattle.std.proofs.lemmas.List.{take-append-drop}
use Rattle.std.specs.Str.{chars}
use Rattle.std.proofs.lemmas.Str.{IsUtf8-take}
use Rattle.lic_kind.specs.LineRules.{rules_of}
use Rattle.lic_lines.specs.Cells.{line_cells}
use Rattle.lic_lines.specs.Streaks.{streaks_joined}
use Rattle.lic_trim.specs.Sources.{unplaced, without_dropped}
use Rattle.lic_lines.specs.Tokens.{line_tokens}
use Rattle.lic_pieces.specs.Pieces.{bare_token, part_of, piece_tokens}
use Rattle.lic_pieces.proofs.EndedLines.{line_tokens-bare}
use Rattle.lic_pieces.proofs.PieceLines.{piece_cells-first, piece_tokens-first}
use Rattle.lic_pieces.proofs.piece_reader.PieceReader.take_one.Goals as goal

pub returns-clause-edges : goal.returns-clause-edges
returns-clause-edges c = λ cells has.
    let rules = rules_of c.args.rules.now in
    let text = c.args.text.now in
    let n = c.text_line_end-end.result in
    let line = take n text in
    let size : n - 0 ≡ n = omega arith in
    let here = c.deref.result.now in
    let is : here ≡ without_dropped (unplaced (chars line)) =
    c.deref.ensures.value ∙ c.in_ok-line.ensures
    ∙ ap (λ l. without_dropped (unplaced (chars l))) (c.range.ensures.value ∙ ap (λ m. take m text) size) in (
      streaks_joined rules (line_cells rules (part_of c.args.has_front c.args.before here) here),
      c.in_ok-take_left.ensures.edges cells has,
      sym (piece_cells-first rules c.args.has_front c.args.before text line (drop n text) here (sym (take-append-drop n text))
          (IsUtf8-take text n c.utf8.text c.text_line_end-end.ensures.boundary) c.text_line_end-end.ensures.line is),
    )

pub returns-clause-taken : goal.returns-clause-taken
returns-clause-taken c = λ taken has.
    let rules = rules_of c.args.rules.now in
    let text = c.args.text.now in
    let n = c.text_line_end-end.result in
    let line = take n text in
    let size : n - 0 ≡ n = omega arith in
    let here = c.deref.result.now in
    let is : here ≡ without_dropped (unplaced (chars line)) =
    c.deref.ensures.value ∙ c.in_ok-line.ensures
    ∙ ap (λ l. without_dropped (unplaced (chars l))) (c.range.ensures.value ∙ ap (λ m. take m text) size) in
    let part = part_of c.args.has_front c.args.before here in
    let bare : map bare_token (line_tokens rules part here) ≡ line_tokens rules part here =
    ap (λ l. map bare_token (line_tokens rules part l)) is ∙ line_tokens-bare rules part (chars line) ∙ ap (line_tokens rules part) (sym is) in (
      line_tokens rules part here,
      c.in_ok-take_left.ensures.taken taken has,
      ap (λ l. l ++ piece_tokens rules true c.args.before (drop n text)) bare
          ∙ sym (piece_tokens-first rules c.args.has_front c.args.before text line (drop n text) here (sym (take-append-drop n text))
          (IsUtf8-take text n c.utf8.text c.text_line_end-end.ensures.boundary) c.text_line_end-end.ensures.line is),
    )
