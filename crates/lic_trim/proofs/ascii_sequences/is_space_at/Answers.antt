use Rattle.std.proofs.Common.{◌∙◌, ap, sym, arith}
use Rattle.std.specs.Char.{is_whitespace}
use Rattle.std.proofs.lemmas.List.{get_or_past}
use Rattle.lic_trim.specs.Walks.{walked}
use Rattle.lic_trim.proofs.Walking.{length-walked}
use Rattle.lic_trim.proofs.ascii_sequences.is_space_at.Goals as goal

pub returns-then-index-line : goal.returns-then-index-line
returns-then-index-line c =
    let line = walked c.args.side c.args.line.now in
    ap is_whitespace (sym (get_or_past line c.args.index 0 (omega (arith, length-walked c.args.side c.args.line.now, c.if-index-line.true))))

pub returns : goal.returns
returns c = c.is_white.ensures ∙ ap is_whitespace c.byte_at.ensures
