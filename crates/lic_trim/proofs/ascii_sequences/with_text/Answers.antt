use Rattle.std.proofs.Common.{◌≡◌, ◌&&◌, ◌||◌, true, false, ◌==◌, length, drop, ap, sym, ◌∙◌, arith}
use Rattle.lic_trim.specs.PieceLengths.{has_bit}
use Rattle.lic_trim.specs.Walks.{walked, begins_with_text}
use Rattle.lic_trim.proofs.PieceLengths.{has_bit_set, or-false}
use Rattle.lic_trim.proofs.Walking.{length-walked}
use Rattle.lic_trim.proofs.ascii_sequences.with_text.Goals as goal

pub returns-then-not-occurs : goal.returns-then-not-occurs
returns-then-not-occurs c = λ n.
    let way = drop c.args.index (walked c.args.side c.args.line.now) in
    let text = walked c.args.side c.args.text.now in
    let off : begins_with_text way text ≡ false = sym c.occurs.ensures ∙ c.if-not-occurs.true in
    sym (ap (λ b. has_bit c.args.mask n || (b && (length text == n))) off ∙ or-false (has_bit c.args.mask n))

pub returns : goal.returns
returns c = λ n.
    let way = drop c.args.index (walked c.args.side c.args.line.now) in
    let text = walked c.args.side c.args.text.now in
    let on : begins_with_text way text ≡ true = sym c.occurs.ensures ∙ c.if-not-occurs.false in
    let long : length c.args.text.now ≡ length text = sym (length-walked c.args.side c.args.text.now) in
    has_bit_set c.args.mask (length c.args.text.now) n (omega arith)
    ∙ ap (λ k. has_bit c.args.mask n || (k == n)) long
    ∙ sym (ap (λ b. has_bit c.args.mask n || (b && (length text == n))) on)
