use Rattle.std.proofs.Common.{sym, take, drop}
use Rattle.std.specs.Prelude.{IsAscii}
use Rattle.std.proofs.lemmas.List.{take-append-drop}
use Rattle.std.proofs.lemmas.Option.{IfSome_then}
use Rattle.std.proofs.lemmas.Result.{IfOk-weaker}
use Rattle.std.proofs.lemmas.Str.{IsAscii-take}
use Rattle.lic_kind.specs.LineRules.{rules_of}
use Rattle.lic_pieces.proofs.LineBegins.{text-front}
use Rattle.lic_pieces.proofs.piece_reader.begins_in_blank.Goals as goal

pub returns : goal.returns
returns c =
    let lines = c.args.lines.now in
    let n = c.line_end.result in
    let ascii : IsAscii (take n lines) = IsAscii-take lines n c.requires.ascii in
    IfOk-weaker c.line_begins_in_blank.result _ _
    (λ begins given. IfSome_then begins given
    (λ blank begin. text-front (rules_of c.args.rules.now) blank lines (take n lines) (drop n lines) ascii
    (sym (take-append-drop n lines)) c.line_end.ensures.line begin))
    c.line_begins_in_blank.ensures
