use Rattle.std.proofs.Common.{◌∙◌, sym, ap, if◌then◌else◌, w64}
use Rattle.std.proofs.lemmas.Nat.Bits.{bit_at_set_same, bit_at_set_other, bit_at_clear_same, bit_at_clear_other}
use Rattle.lic_rows.proofs.word.with_bit.Goals as goal

pub returns-then-is_set-clause-here : goal.returns-then-is_set-clause-here
returns-then-is_set-clause-here c =
    bit_at_set_same w64 c.args.word c.args.at c.requires ∙ sym (ap (λ b. if b then 1 else 0) c.if-is_set.true)

pub returns-then-is_set-clause-other : goal.returns-then-is_set-clause-other
returns-then-is_set-clause-other c = λ i within apart. bit_at_set_other w64 c.args.word c.args.at c.requires i apart

pub returns-else-is_set-clause-here : goal.returns-else-is_set-clause-here
returns-else-is_set-clause-here c =
    bit_at_clear_same w64 c.args.word c.args.at c.requires ∙ sym (ap (λ b. if b then 1 else 0) c.if-is_set.false)

pub returns-else-is_set-clause-other : goal.returns-else-is_set-clause-other
returns-else-is_set-clause-other c = λ i within apart. bit_at_clear_other w64 c.args.word c.args.at c.requires i within apart
