use Rattle.std.proofs.Common.{◌≡◌, ℕ, ◌+◌, ◌-◌, ◌*◌, arith}
use Rattle.lic_letters.proofs.WideBytes.{two_is}
use Rattle.lic_letters.proofs.wide.chars.char_of_two.Goals as goal

pub returns-clause-bytes : goal.returns-clause-bytes
returns-clause-bytes c =
    let a : ℕ = c.args.first in
    let b : ℕ = c.args.second in
    let value : c.in-Some.c ≡ (a - 192) * 64 + (b - 128) = c.in-Some.ensures.value.1 in
    two_is a b c.in-Some.c (omega (arith, c.if-first-lt194.false)) (omega (arith, c.if-first-gt223.false)) (omega (arith, c.if-second-lt128.false))
    (omega (arith, c.if-second-gt191.false)) value
