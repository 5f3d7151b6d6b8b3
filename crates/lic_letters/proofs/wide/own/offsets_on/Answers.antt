use Rattle.std.proofs.Common.{◌≡◌, ◌+◌, ◌-◌, ◌%◌, ◌^◌, ℕ, map, replicate, get_or, ltb, ap, ◌∙◌, arith}
use Rattle.std.proofs.lemmas.List.{length-map}
use Rattle.std.proofs.lemmas.Simd.{map-map, zip2_splat}
use lib.Lanes.{zip2}
use Rattle.lic_letters.proofs.Lanes.{all_ones, lane_fits}
use Rattle.lic_letters.proofs.OwnLanes.{bit_compared, is_on, is_on-continues}
use Rattle.lic_letters.proofs.wide.own.offsets_on.Goals as goal

abbrev moved : ℕ → ℕ → ℕ
moved a b = (a + (2 ^ 8 - b)) % 2 ^ 8

abbrev less : ℕ → ℕ → ℕ
less a b = all_ones (ltb a b)

pub returns : goal.returns
returns c = λ i small.
    let v = c.args.bytes in
    let first : zip2 moved v (replicate 16 128) ≡ map (λ x. moved x 128) v = zip2_splat moved v 16 128 c.fits-bytes.0 in
    let tests : zip2 less (zip2 moved v (replicate 16 128)) (replicate 16 64) ≡ map (λ x. all_ones (is_on x)) v =
    ap (λ l. zip2 less l (replicate 16 64)) first ∙ zip2_splat less (map (λ x. moved x 128) v) 16 64 (length-map v (λ x. moved x 128) ∙ c.fits-bytes.0)
    ∙ map-map (λ y. less y 64) (λ x. moved x 128) v in
    bit_compared is_on v _ i (omega (arith, c.fits-bytes.0)) tests (omega (arith, small, c.fits-bytes.0))
    ∙ is_on-continues (get_or v i 0) (lane_fits v i c.fits-bytes.1)
