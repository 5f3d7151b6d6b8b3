use Rattle.std.proofs.Common.{◌≡◌, ◌+◌, ◌%◌, ◌==◌, ap, ◌∙◌, w64, arith}
use Rattle.std.specs.Int.{trailing_zeros}
use Rattle.std.proofs.lemmas.Nat.{shr-shr}
use Rattle.std.proofs.lemmas.Nat.Bits.{bit_at-trailing_zeros}
use Rattle.lic_trim.specs.PieceLengths.{has_bit}
use Rattle.lic_trim.proofs.ascii_sequences.first_end.Goals as goal

pub returns-clause-here : goal.returns-clause-here
returns-clause-here c =
    let t = trailing_zeros w64 c.args.ends in
    let last : t + 0 ≡ t = omega arith in
    ap (λ n. n % 2 == 1) (shr-shr c.args.ends t 0) ∙ ap (has_bit c.args.ends) last
    ∙ ap (λ b. b == 1) (bit_at-trailing_zeros w64 c.args.ends c.requires c.ranges.ends.fits).1

pub returns-clause-rest : goal.returns-clause-rest
returns-clause-rest c = λ d. ap (λ n. n % 2 == 1) (shr-shr c.args.ends (trailing_zeros w64 c.args.ends) d)

pub returns-clause-none : goal.returns-clause-none
returns-clause-none c = λ d lt. ap (λ b. b == 1) ((bit_at-trailing_zeros w64 c.args.ends c.requires c.ranges.ends.fits).2 d lt)
