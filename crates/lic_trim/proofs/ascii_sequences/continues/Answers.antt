use Rattle.std.proofs.Common.{length, drop, ap₂, sym, ◌∙◌, ◌==◌, arith, length-drop}
use Rattle.std.proofs.lemmas.Bool.{eqb-true}
use Rattle.std.proofs.lemmas.List.{get_or-drop}
use Rattle.lic_trim.specs.Walks.{walked, End}
use Rattle.lic_trim.proofs.PieceLengths.{continues_empty, continues_apart, continues_short, continues_other}
use Rattle.lic_trim.proofs.Walking.{length-walked}
use Rattle.lic_trim.proofs.ascii_sequences.continues.Goals as goal

pub returns-then-is_empty : goal.returns-then-is_empty
returns-then-is_empty c = λ _.
    continues_empty (drop c.args.index (walked End c.args.line.now)) c.args.text.now (eqb-true _ _ (sym c.is_empty.ensures ∙ c.if-is_empty.true))

pub returns-then-not-occurs : goal.returns-then-not-occurs
returns-then-not-occurs c = λ _.
    continues_apart (drop c.args.index (walked End c.args.line.now)) c.args.text.now (sym c.occurs.ensures ∙ c.if-not-occurs.true)

pub returns-then-text-line : goal.returns-then-text-line
returns-then-text-line c = λ _.
    let line = walked End c.args.line.now in
    continues_short (drop c.args.index line) c.args.text.now
    (omega (arith, length-drop c.args.index line, length-walked End c.args.line.now, c.if-text-line.true))

pub returns : goal.returns
returns c = λ off.
    let line = walked End c.args.line.now in
    continues_other (drop c.args.index line) c.args.text.now c.index-text-0.result
    (ap₂ (λ a b. a == b) (get_or-drop c.args.index line (length c.args.text.now) 0 ∙ sym c.byte_at.ensures) (sym c.index-text-0.is) ∙ off)
