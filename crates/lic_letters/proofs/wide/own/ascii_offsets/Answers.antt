use Rattle.std.proofs.Common.{ℕ, ltb, arith}
use Rattle.std.proofs.lemmas.Simd.{zip2_splat}
use Rattle.lic_letters.proofs.Lanes.{all_ones}
use Rattle.lic_letters.proofs.OwnLanes.{bit_compared, bit_past}
use Rattle.lic_letters.proofs.wide.own.ascii_offsets.Goals as goal

abbrev less : ℕ → ℕ → ℕ
less a b = all_ones (ltb a b)

pub returns-clause-bits : goal.returns-clause-bits
returns-clause-bits c = λ i small.
    let v = c.args.bytes in
    bit_compared (λ b. ltb b 128) v _ i (omega (arith, c.fits-bytes.0)) (zip2_splat less v 16 128 c.fits-bytes.0) (omega (arith, small, c.fits-bytes.0))

pub returns-clause-above : goal.returns-clause-above
returns-clause-above c = λ i past.
    let v = c.args.bytes in
    bit_past (λ b. ltb b 128) v _ i (omega (arith, c.fits-bytes.0)) (zip2_splat less v 16 128 c.fits-bytes.0) (omega (arith, past, c.fits-bytes.0))
