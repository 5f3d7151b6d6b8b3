use Rattle.std.proofs.Common.{ℕ, leb, arith}
use Rattle.std.proofs.lemmas.Simd.{zip2_splat_left}
use Rattle.lic_letters.proofs.Lanes.{all_ones, mask_of}
use Rattle.lic_letters.proofs.wide.own.high_offsets.Goals as goal

abbrev at_most : ℕ → ℕ → ℕ
at_most a b = all_ones (leb a b)

pub returns : goal.returns
returns c =
    let v = c.args.lanes in
    mask_of (λ b. leb 128 b) v _ (omega (arith, c.fits-lanes.0)) (zip2_splat_left at_most 128 16 v c.fits-lanes.0)
