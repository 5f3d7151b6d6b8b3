use Rattle.std.proofs.Common.{◌≡◌, ℕ, ◌/◌, ◌%◌, ◌^◌, ◌==◌, min, get_or, ap, ◌∙◌, arith}
use Rattle.std.specs.Prelude.{bit_and, bit_or}
use Rattle.lic_kind.specs.Beginnings.{has_bit}
use Rattle.lic_kind.proofs.rules.beginnings.Beginnings.begun.Goals as goal

pub returns-clause-known : goal.returns-clause-known
returns-clause-known c = λ k text known may.
    let b = c.args.self.now in
    let of = λ (p q : ℕ). bit_and (get_or b.firsts p 0) (bit_or (get_or b.seconds q 0) b.alone) in
    ap (λ p. has_bit (of p c.slot-2.result) k) c.slot.ensures ∙ ap (λ q. has_bit (of (min c.args.first 255) q) k) c.slot-2.ensures
    ∙ known c.args.first c.args.second may

pub returns-clause-own : goal.returns-clause-own
returns-clause-own c =
    let b = c.args.self.now in
    let none : bit_and (get_or b.firsts c.slot.result 0) (bit_or (get_or b.seconds c.slot-2.result 0) b.alone) / 2 ^ 63 ≡ 0 = omega arith in
    ap (λ n. n % 2 == 1) none
