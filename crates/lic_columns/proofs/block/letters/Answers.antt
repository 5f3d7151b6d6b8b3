use Rattle.std.proofs.Common.{◌≡◌, ℕ, Bool, true, false, ◌||◌, map, replicate, bit_or, eqb, refl, ◌∙◌}
use Rattle.std.proofs.lemmas.Simd.{zip2_splat, zip2_of_maps, splat_is_map}
use Rattle.std.specs.Char.{to_ascii_lowercase}
use lib.Lanes.{zip2}
use Rattle.lic_letters.proofs.Lanes.{all_ones}
use Rattle.lic_columns.proofs.ByteLemmas.{is_other_quote, letters_made}
use Rattle.lic_columns.proofs.Lanes.{map_same, select_is}
use Rattle.lic_columns.proofs.block.letters.Goals as goal

abbrev same : ℕ → ℕ → ℕ
same a b = all_ones (eqb a b)

either : (t u : Bool) → bit_or (all_ones t) (all_ones u) ≡ all_ones (t || u)
either true true = refl
either true false = refl
either false true = refl
either false false = refl

pub returns : goal.returns
returns c =
    let v = c.args.bytes in
    let tests : zip2 bit_or (zip2 same v (replicate 64 34)) (zip2 same v (replicate 64 96)) ≡ map (λ b. all_ones (is_other_quote b)) v =
    zip2_of_maps bit_or (λ b. same b 34) (λ b. same b 96) v (zip2_splat same v 64 34 c.fits-bytes.0) (zip2_splat same v 64 96 c.fits-bytes.0)
    ∙ map_same (λ b. bit_or (same b 34) (same b 96)) (λ b. all_ones (is_other_quote b)) (λ b small. either (eqb b 34) (eqb b 96)) v c.fits-bytes.1 in
    select_is is_other_quote (λ _. 39) to_ascii_lowercase v _ _ _ tests (splat_is_map v 64 39 c.fits-bytes.0) c.lowered.ensures
    ∙ letters_made v c.fits-bytes.1
