use Rattle.std.proofs.Common.{ℕ, List, sym, ◌∙◌}
use Rattle.std.specs.Prelude.{nat_le}
use Rattle.std.specs.Simd.Lanes.{chunk}
use Rattle.std.proofs.lemmas.Bool.{eqb-true}
use Rattle.std.proofs.lemmas.Simd.{leading_from_mask_l, length-chunk}
use Rattle.lic_letters.proofs.SpelledFronts.{before_high_own}
use Rattle.lic_letters.proofs.wide.own.begins_with_ascii.Goals as goal

pub returns : goal.returns
returns c = λ none.
    let bytes : List ℕ = c.args.bytes.now in
    before_high_own bytes 16 c.requires
    (sym (leading_from_mask_l (λ b. nat_le 128 b) (chunk 0 16 bytes) (sym c.high_offsets.ensures ∙ eqb-true c.high_offsets.result 0 none)
    ∙ length-chunk 0 16 bytes c.requires))
