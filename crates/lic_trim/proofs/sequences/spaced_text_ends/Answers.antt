use Rattle.std.proofs.Common.{◌≡◌, ◌∙◌, ◌-◌, true, false, sym, ap, subst, arith, length}
use Rattle.std.specs.Prelude.{slice_index_or, slice_range, bytes_eq}
use Rattle.std.specs.Char.{is_whitespace}
use Rattle.std.proofs.lemmas.Bool.{false≢true}
use Rattle.lic_trim.specs.Sources.{chars_of}
use Rattle.lic_trim.specs.Walks.{walked, spaced_text_ends}
use Rattle.lic_trim.proofs.KindEnds.{spaced_none, spaced_value}
use Rattle.lic_trim.proofs.Walking.{length-walked, length-walked_chars, bytes_eq-walked}
use Rattle.lic_trim.proofs.sequences.spaced_text_ends.Goals as goal

pub returns-then-not-is_whitespace : goal.returns-then-not-is_whitespace
unfolding spaced_text_ends
returns-then-not-is_whitespace c =
    let line = walked c.args.side (chars_of c.args.line.now) in
    let many = length-walked_chars c.args.side c.args.line.now in
    spaced_none c.args.flags.now line c.args.end (c.args.end - 1) (omega arith) (omega arith) (walked c.args.side c.args.text.now)
    (λ white fits flag. false≢true (sym c.if-not-is_whitespace.true ∙ c.is_whitespace.ensures ∙ ap is_whitespace c.char_at.ensures ∙ white))

pub returns-then-len-before : goal.returns-then-len-before
unfolding spaced_text_ends
returns-then-len-before c =
    let line = walked c.args.side (chars_of c.args.line.now) in
    let many = length-walked_chars c.args.side c.args.line.now in
    let long = length-walked c.args.side c.args.text.now in
    spaced_none c.args.flags.now line c.args.end (c.args.end - 1) (omega arith) (omega arith)
    (walked c.args.side c.args.text.now) (λ white fits flag. omega arith)

pub returns-then-not-flags-before : goal.returns-then-not-flags-before
unfolding spaced_text_ends
returns-then-not-flags-before c =
    let line = walked c.args.side (chars_of c.args.line.now) in
    let many = length-walked_chars c.args.side c.args.line.now in
    let long : length c.args.text.now ≡ length (walked c.args.side c.args.text.now) = sym (length-walked c.args.side c.args.text.now) in
    spaced_none c.args.flags.now line c.args.end (c.args.end - 1) (omega arith) (omega arith) (walked c.args.side c.args.text.now)
    (λ white fits flag. false≢true
    (sym (subst (λ n. slice_index_or c.args.flags.now (c.args.end - 1 - n) false
    ≡ false) long c.if-not-flags-before.true) ∙ flag))

pub returns : goal.returns
unfolding spaced_text_ends
returns c =
    let line = walked c.args.side (chars_of c.args.line.now) in
    let text = walked c.args.side c.args.text.now in
    let before = c.args.end - 1 in
    let many = length-walked_chars c.args.side c.args.line.now in
    let long : length c.args.text.now ≡ length text = sym (length-walked c.args.side c.args.text.now) in
    spaced_value c.args.flags.now line c.args.end before (omega arith) (omega arith) text c.is_text.result
    (ap is_whitespace (sym c.char_at.ensures) ∙ sym c.is_whitespace.ensures ∙ c.if-not-is_whitespace.false) (omega arith)
    (subst (λ n. slice_index_or c.args.flags.now (before - n) false ≡ true) long c.if-not-flags-before.false)
    (c.is_text.ensures ∙ bytes_eq-walked c.args.side c.args.text.now (chars_of c.part.result.now)
    ∙ ap (λ l. bytes_eq l text) (c.part.ensures ∙ ap (λ n. slice_range line (before - n) before) long))
