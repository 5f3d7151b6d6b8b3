use Rattle.std.proofs.Common.{◌≡◌, ℕ, ◌+◌, ◌-◌, ◌*◌, arith}
use Rattle.lic_letters.proofs.WideBytes.{three_is}
use Rattle.lic_letters.proofs.wide.chars.char_of_three.Goals as goal

pub returns-clause-bytes : goal.returns-clause-bytes
returns-clause-bytes c =
    let a : ℕ = c.args.first in
    let b : ℕ = c.args.second in
    let d : ℕ = c.args.third in
    let value : c.in-Some.c ≡ ((a - 224) * 64 + (b - 128)) * 64 + (d - 128) = c.in-Some.ensures.value.1 in
    three_is a b d c.in-Some.c (omega (arith, c.if-first-lt224.false)) (omega (arith, c.if-first-gt239.false)) (omega (arith, c.if-second-lt128.false))
    (omega (arith, c.if-second-gt191.false)) (omega (arith, c.if-third-lt128.false)) (omega (arith, c.if-third-gt191.false)) value
    (omega (arith, c.if-code-lt2048.false, value))
