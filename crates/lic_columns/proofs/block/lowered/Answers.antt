use Rattle.std.proofs.Common.{◌≡◌, ℕ, ◌+◌, ◌-◌, ◌%◌, ◌^◌, map, replicate, bit_or, cond, ltb, ap, sym, ◌∙◌}
use Rattle.std.proofs.lemmas.List.{length-map, map-id}
use Rattle.std.proofs.lemmas.Simd.{zip2_splat, zip2_of_maps, splat_is_map, map-map}
use lib.Lanes.{zip2, sel_l, top}
use Rattle.lic_columns.proofs.ByteLemmas.{is_capital, small_letters}
use Rattle.lic_letters.proofs.Lanes.{all_ones}
use Rattle.lic_columns.proofs.Lanes.{select_is}
use Rattle.lic_columns.proofs.block.lowered.Goals as goal

abbrev moved : ℕ → ℕ → ℕ
moved a b = (a + (2 ^ 8 - b)) % 2 ^ 8

abbrev less : ℕ → ℕ → ℕ
less a b = all_ones (ltb a b)

pub returns : goal.returns
returns c =
    let v = c.args.bytes in
    let first : zip2 moved v (replicate 64 65) ≡ map (λ x. moved x 65) v = zip2_splat moved v 64 65 c.fits-bytes.0 in
    let tests : zip2 less (zip2 moved v (replicate 64 65)) (replicate 64 26) ≡ map (λ x. all_ones (is_capital x)) v =
    ap (λ l. zip2 less l (replicate 64 26)) first ∙ zip2_splat less (map (λ x. moved x 65) v) 64 26 (length-map v (λ x. moved x 65) ∙ c.fits-bytes.0)
    ∙ map-map (λ y. less y 26) (λ x. moved x 65) v in
    let added : sel_l (map (top 7) (zip2 less (zip2 moved v (replicate 64 65)) (replicate 64 26))) (replicate 64 32) (replicate 64 0) ≡ map (λ x. cond (is_capital x) 32 0) v =
    select_is is_capital (λ _. 32) (λ _. 0) v _ _ _ tests (splat_is_map v 64 32 c.fits-bytes.0) (splat_is_map v 64 0 c.fits-bytes.0) in
    zip2_of_maps bit_or (λ x. x) (λ x. cond (is_capital x) 32 0) v (sym (map-id v)) added ∙ small_letters v c.fits-bytes.1
