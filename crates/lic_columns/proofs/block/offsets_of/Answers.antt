use Rattle.std.proofs.Common.{ℕ, ◌==◌, eqb}
use Rattle.std.proofs.lemmas.Simd.{zip2_splat}
use Rattle.lic_letters.proofs.Lanes.{all_ones}
use Rattle.lic_columns.proofs.Lanes.{IsMask-compared}
use Rattle.lic_columns.proofs.block.offsets_of.Goals as goal

abbrev same : ℕ → ℕ → ℕ
same a b = all_ones (eqb a b)

pub returns : goal.returns
returns c = IsMask-compared (λ b. b == c.args.lane) c.args.lanes _ c.fits-lanes.0 (zip2_splat same c.args.lanes 64 c.args.lane c.fits-lanes.0)
