use Rattle.std.proofs.Common.{bit_and, refl, arith}
use Rattle.std.proofs.lemmas.Nat.{and_le_r}
use Rattle.std.proofs.lemmas.Simd.{zip2_splat}
use Rattle.lic_columns.specs.declared.block.TheConstants.{LOW}
use Rattle.lic_columns.proofs.Lanes.{low_ok, looked_up}
use Rattle.lic_columns.proofs.block.classes_by_low.Goals as goal

pub swizzle : goal.swizzle
swizzle c = low_ok c.args.bytes c.fits-bytes

pub returns : goal.returns
returns c =
    let v = c.args.bytes in
    looked_up LOW (λ x. bit_and x 15) v _ c.fits-bytes (zip2_splat bit_and v 64 15 c.fits-bytes.0) (λ x h. omega (arith, and_le_r x 15)) refl
