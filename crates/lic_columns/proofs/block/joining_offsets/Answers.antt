use Rattle.std.proofs.Common.{◌≡◌, ◌<◌, ◌||◌, ◌==◌, false, length, get_or, ap, ◌∙◌, arith}
use Rattle.std.proofs.lemmas.List.{get_or-map}
use Rattle.lic_columns.specs.Marks.{is_joining}
use Rattle.lic_letters.proofs.BitLemmas.{has_bit_or}
use Rattle.lic_columns.proofs.block.joining_offsets.Goals as goal
use Rattle.lic_trim.specs.PieceLengths.{has_bit}

pub returns : goal.returns
returns c = λ i small inside.
    let lanes = c.load-lanes.result in
    let within : i < length lanes = omega (arith, c.load-lanes.ensures.long) in
    let quote : has_bit c.offsets_of.result i ≡ (get_or lanes i 0 == 0x27) = c.offsets_of.ensures.bit i ∙ get_or-map (λ b. b == 0x27) lanes i 0 false within in
    let dash : has_bit c.offsets_of-2.result i ≡ (get_or lanes i 0 == 0x2D) = c.offsets_of-2.ensures.bit i ∙ get_or-map (λ b. b == 0x2D) lanes i 0 false within in
    has_bit_or c.offsets_of.result c.offsets_of-2.result i
    ∙ ap (λ t. t || has_bit c.offsets_of-2.result i) quote ∙ ap (λ t. (get_or lanes i 0 == 0x27) || t) dash
    ∙ ap is_joining (c.load-lanes.ensures.bytes i small inside)
