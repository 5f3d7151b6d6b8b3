use Rattle.std.proofs.Common.{◌≡◌, ◌-◌, ◌∙◌, ap, sym, subst, false, true, length, arith}
use Rattle.std.specs.Prelude.{slice_index_or, bytes_eq, slice_range}
use Rattle.lic_trim.specs.Sources.{chars_of}
use Rattle.lic_trim.specs.Walks.{walked}
use Rattle.lic_trim.proofs.PieceEnds.{text_ends-none, text_ends-value, text_ends-unflagged}
use Rattle.lic_trim.proofs.Walking.{length-walked, bytes_eq-walked, length-walked_chars}
use Rattle.lic_trim.proofs.sequences.text_ends.Goals as goal

pub returns-then-len-eq0 : goal.returns-then-len-eq0
returns-then-len-eq0 c =
    let long = length-walked c.args.side c.args.text.now in
    let many = length-walked_chars c.args.side c.args.line.now in
    text_ends-none c.args.flags.now (walked c.args.side (chars_of c.args.line.now)) c.args.end
    (walked c.args.side c.args.text.now) (omega arith) (λ some fits. omega arith)

pub returns-then-flags-end : goal.returns-then-flags-end
returns-then-flags-end c =
    let line = walked c.args.side (chars_of c.args.line.now) in
    let text = walked c.args.side c.args.text.now in
    let long : length text ≡ length c.args.text.now = length-walked c.args.side c.args.text.now in
    let many = length-walked_chars c.args.side c.args.line.now in
    let index : length c.args.text.now ≡ length text = sym long in
    text_ends-value c.args.flags.now line c.args.end text c.is_text.result (omega arith) (omega arith) (omega arith)
    (subst (λ n. slice_index_or c.args.flags.now (c.args.end - n) false ≡ true) index c.if-flags-end.true)
    (c.is_text.ensures ∙ bytes_eq-walked c.args.side c.args.text.now (chars_of c.part.result.now)
    ∙ ap (λ l. bytes_eq l text) (c.part.ensures ∙ ap (λ n. slice_range line (c.args.end - n) c.args.end) index))

pub returns-else-flags-end : goal.returns-else-flags-end
returns-else-flags-end c =
    let line = walked c.args.side (chars_of c.args.line.now) in
    let text = walked c.args.side c.args.text.now in
    let many = length-walked_chars c.args.side c.args.line.now in
    let index : length c.args.text.now ≡ length text = sym (length-walked c.args.side c.args.text.now) in
    c.if-flags-end.false ∙ sym (subst (λ n. slice_index_or c.args.flags.now (c.args.end - n) false
    ≡ false) index c.if-flags-end.false)
    ∙ text_ends-unflagged c.args.flags.now line c.args.end text (omega arith)
    (subst (λ n. slice_index_or c.args.flags.now (c.args.end - n) false ≡ false) index c.if-flags-end.false)
