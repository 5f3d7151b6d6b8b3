use Rattle.std.proofs.Common.{ℕ, nat_le, leb}
use Rattle.std.proofs.lemmas.Simd.{zip2_splat_left}
use Rattle.lic_letters.proofs.Lanes.{all_ones}
use Rattle.lic_columns.proofs.Lanes.{IsMask-compared}
use Rattle.lic_columns.proofs.block.offsets_from.Goals as goal

abbrev at_most : ℕ → ℕ → ℕ
at_most a b = all_ones (leb a b)

pub returns : goal.returns
returns c = IsMask-compared (λ b. nat_le c.args.least b) c.args.lanes _ c.fits-lanes.0 (zip2_splat_left at_most c.args.least 64 c.args.lanes c.fits-lanes.0)
