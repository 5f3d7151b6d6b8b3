use Rattle.std.proofs.Common.{◌/◌, refl, arith}
use Rattle.std.proofs.lemmas.Simd.{zip2_splat}
use Rattle.lic_columns.specs.declared.block.TheConstants.{HIGH}
use Rattle.lic_letters.proofs.Lanes.{down}
use Rattle.lic_columns.proofs.Lanes.{high_ok, looked_up}
use Rattle.lic_columns.proofs.block.classes_by_high.Goals as goal

pub swizzle : goal.swizzle
swizzle c = high_ok c.args.bytes c.fits-bytes

pub returns : goal.returns
returns c =
    let v = c.args.bytes in
    looked_up HIGH (λ x. x / 16) v _ c.fits-bytes (zip2_splat down v 64 4 c.fits-bytes.0) (λ x h. omega arith) refl
