use Rattle.std.proofs.Common.{◌∙◌, ◌-◌, ◌&&◌, sym, ap, arith}
use Rattle.std.specs.Prelude.{slice_index}
use Rattle.std.specs.Char.{is_whitespace}
use Rattle.lic_trim.specs.Sources.{chars_of}
use Rattle.lic_trim.specs.Walks.{walked}
use Rattle.lic_trim.proofs.KindEnds.{space_ends}
use Rattle.lic_trim.proofs.Walking.{length-walked_chars}
use Rattle.lic_trim.proofs.sequences.space_ends.Goals as goal

pub returns-then-flags-end : goal.returns-then-flags-end
returns-then-flags-end c =
    let line = walked c.args.side (chars_of c.args.line.now) in
    let many = length-walked_chars c.args.side c.args.line.now in
    c.is_whitespace.ensures ∙ ap is_whitespace c.char_at.ensures
    ∙ sym (space_ends c.args.flags.now line c.args.end (c.args.end - 1) (omega arith) (omega arith)
    ∙ ap (λ b. b && is_whitespace (slice_index line (c.args.end - 1))) c.if-flags-end.true)

pub returns-else-flags-end : goal.returns-else-flags-end
returns-else-flags-end c =
    let line = walked c.args.side (chars_of c.args.line.now) in
    let many = length-walked_chars c.args.side c.args.line.now in
    c.if-flags-end.false ∙ sym (space_ends c.args.flags.now line c.args.end (c.args.end - 1) (omega arith)
    (omega arith) ∙ ap (λ b. b && is_whitespace (slice_index line (c.args.end - 1))) c.if-flags-end.false)
