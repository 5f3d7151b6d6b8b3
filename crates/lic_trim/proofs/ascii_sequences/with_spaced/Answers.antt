use Rattle.std.proofs.Common.{◌≡◌, ◌+◌, suc, ◌&&◌, ◌||◌, true, false, ◌==◌, length, drop, get_or, ap, sym, ◌∙◌, arith}
use Rattle.std.specs.Char.{is_whitespace}
use Rattle.std.proofs.lemmas.List.{get_or-drop}
use Rattle.lic_trim.specs.PieceLengths.{has_bit}
use Rattle.lic_trim.specs.Walks.{walked, begins_with_text}
use Rattle.lic_trim.proofs.PieceLengths.{has_bit_set, or-false, and-false}
use Rattle.lic_trim.proofs.Walking.{length-walked}
use Rattle.lic_trim.proofs.ascii_sequences.with_spaced.Goals as goal

pub returns-then-not-occurs : goal.returns-then-not-occurs
returns-then-not-occurs c = λ n.
    let way = drop c.args.index (walked c.args.side c.args.line.now) in
    let text = walked c.args.side c.args.text.now in
    let off : begins_with_text way text ≡ false = sym c.occurs.ensures ∙ c.if-not-occurs.true in
    sym (ap (λ b. has_bit c.args.mask n || (b && (is_whitespace (get_or way (length text) 0) && (suc (length text) == n)))) off ∙ or-false (has_bit c.args.mask n))

pub returns-then-not-is_space_at : goal.returns-then-not-is_space_at
returns-then-not-is_space_at c = λ n.
    let line = walked c.args.side c.args.line.now in
    let way = drop c.args.index line in
    let text = walked c.args.side c.args.text.now in
    let long : length c.args.text.now ≡ length text = sym (length-walked c.args.side c.args.text.now) in
    let off : is_whitespace (get_or way (length text) 0) ≡ false =
    ap is_whitespace (get_or-drop c.args.index line (length text) 0 ∙ ap (λ k. get_or line (c.args.index + k) 0) (sym long))
    ∙ sym c.is_space_at.ensures ∙ c.if-not-is_space_at.true in
    sym (ap (λ b. has_bit c.args.mask n || (begins_with_text way text && (b && (suc (length text) == n)))) off
    ∙ ap (λ b. has_bit c.args.mask n || b) (and-false (begins_with_text way text)) ∙ or-false (has_bit c.args.mask n))

pub returns : goal.returns
returns c = λ n.
    let line = walked c.args.side c.args.line.now in
    let way = drop c.args.index line in
    let text = walked c.args.side c.args.text.now in
    let on : begins_with_text way text ≡ true = sym c.occurs.ensures ∙ c.if-not-occurs.false in
    let long : length c.args.text.now ≡ length text = sym (length-walked c.args.side c.args.text.now) in
    let size : length c.args.text.now + 1 ≡ suc (length text) = omega (arith, long) in
    let white : is_whitespace (get_or way (length text) 0) ≡ true =
    ap is_whitespace (get_or-drop c.args.index line (length text) 0 ∙ ap (λ k. get_or line (c.args.index + k) 0) (sym long))
    ∙ sym c.is_space_at.ensures ∙ c.if-not-is_space_at.false in
    has_bit_set c.args.mask (length c.args.text.now + 1) n (omega arith)
    ∙ ap (λ k. has_bit c.args.mask n || (k == n)) size
    ∙ sym (ap (λ b. has_bit c.args.mask n || (b && (is_whitespace (get_or way (length text) 0) && (suc (length text) == n)))) on
    ∙ ap (λ b. has_bit c.args.mask n || (b && (suc (length text) == n))) white)
