use borrow.Author.Count.{below_more}
use Rattle.std.proofs.Common.{◌≡◌, ◌+◌, ◌∙◌, drop, sym, length-drop, arith}
use Rattle.std.specs.Prelude.{slice_index}
use Rattle.std.proofs.lemmas.List.{get_or-drop}
use Rattle.lic_trim.specs.Walks.{walked}
use Rattle.lic_trim.proofs.PieceLengths.{occurs_each}
use Rattle.lic_trim.proofs.BeginningTexts.{occurs_short, occurs_other}
use Rattle.lic_trim.proofs.Walking.{length-walked}
use Rattle.lic_trim.proofs.ascii_texts.occurs.Goals as goal

pub returns-then-text-line : goal.returns-then-text-line
returns-then-text-line c =
    let way = walked c.args.side c.args.line.now in
    sym (occurs_short (drop c.args.index way) (walked c.args.side c.args.text.now)
    (omega (arith, length-drop c.args.index way, length-walked c.args.side c.args.line.now, length-walked c.args.side c.args.text.now, c.if-text-line.true)))

pub returns-then-byte_at-text_at : goal.returns-then-byte_at-text_at
returns-then-byte_at-text_at c =
    let way = walked c.args.side c.args.line.now in
    let i = c.loop-i.i in
    sym (occurs_other (drop c.args.index way) (walked c.args.side c.args.text.now) i
    (omega (arith, length-drop c.args.index way, length-walked c.args.side c.args.line.now, length-walked c.args.side c.args.text.now))
    (omega (arith, length-walked c.args.side c.args.text.now))
    (λ same. c.if-byte_at-text_at.true (c.byte_at.ensures ∙ sym (get_or-drop c.args.index way i 0) ∙ same ∙ sym c.text_at.ensures)))

pub loop-i-preserved : goal.loop-i-preserved
loop-i-preserved c =
    let way = walked c.args.side c.args.line.now in
    let text = walked c.args.side c.args.text.now in
    below_more (λ k. slice_index way (c.args.index + k) ≡ slice_index text k) c.loop-i.i c.loop-i.invariant
    (sym c.byte_at.ensures ∙ c.if-byte_at-text_at.false ∙ c.text_at.ensures)

pub returns : goal.returns
returns c =
    let way = walked c.args.side c.args.line.now in
    let text = walked c.args.side c.args.text.now in
    sym (occurs_each (drop c.args.index way) text
    (omega (arith, length-drop c.args.index way, length-walked c.args.side c.args.line.now, length-walked c.args.side c.args.text.now))
    (λ k lt. get_or-drop c.args.index way k 0 ∙ c.loop-i.invariant k (omega (arith, length-walked c.args.side c.args.text.now))))
