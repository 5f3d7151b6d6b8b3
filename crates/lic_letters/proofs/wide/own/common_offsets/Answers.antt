use Rattle.std.proofs.Common.{◌≡◌, ◌==◌, ℕ, not, List, length, bit_and, eqb, ap, sym, ◌∙◌, arith}
use Rattle.std.proofs.lemmas.Simd.{get_or-zip2, length-zip2, zip2_splat}
use lib.Lanes.{zip2}
use Rattle.lic_letters.proofs.Lanes.{all_ones}
use Rattle.lic_letters.proofs.OwnLanes.{bit_compared, bit_past}
use Rattle.lic_letters.proofs.wide.own.common_offsets.Goals as goal

abbrev differs : ℕ → ℕ → ℕ
differs a b = all_ones (not (eqb a b))

pub returns-clause-bits : goal.returns-clause-bits
returns-clause-bits c = λ i small.
    let both : List ℕ = zip2 bit_and c.args.one c.args.other in
    let long : length both ≡ 16 = length-zip2 bit_and c.args.one c.args.other (c.fits-one.0 ∙ sym c.fits-other.0) ∙ c.fits-one.0 in
    bit_compared (λ m. not (m == 0)) both _ i (omega (arith, long)) (zip2_splat differs both 16 0 long) (omega (arith, small, long))
    ∙ ap (λ m. not (m == 0))
    (get_or-zip2 bit_and c.args.one c.args.other i 0 0 0 (omega (arith, small, c.fits-one.0)) (omega (arith, small, c.fits-other.0)))

pub returns-clause-above : goal.returns-clause-above
returns-clause-above c = λ i past.
    let both : List ℕ = zip2 bit_and c.args.one c.args.other in
    let long : length both ≡ 16 = length-zip2 bit_and c.args.one c.args.other (c.fits-one.0 ∙ sym c.fits-other.0) ∙ c.fits-one.0 in
    bit_past (λ m. not (m == 0)) both _ i (omega (arith, long)) (zip2_splat differs both 16 0 long) (omega (arith, past, long))
