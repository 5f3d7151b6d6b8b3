use Rattle.std.proofs.Common.{◌≡◌, ◌&&◌, true, false, ◌==◌, ap, sym, ◌∙◌}
use Rattle.std.specs.Char.{is_whitespace}
use Rattle.lic_trim.proofs.PieceLengths.{space_bit, has_bit_zero}
use Rattle.lic_trim.proofs.ascii_sequences.space_length.Goals as goal

pub returns-then-is_white : goal.returns-then-is_white
returns-then-is_white c = λ n.
    let white : is_whitespace c.args.byte ≡ true = sym c.is_white.ensures ∙ c.if-is_white.true in
    space_bit n ∙ sym (ap (λ b. b && (n == 1)) white)

pub returns-else-is_white : goal.returns-else-is_white
returns-else-is_white c = λ n.
    let dark : is_whitespace c.args.byte ≡ false = sym c.is_white.ensures ∙ c.if-is_white.false in
    has_bit_zero n ∙ sym (ap (λ b. b && (n == 1)) dark)
