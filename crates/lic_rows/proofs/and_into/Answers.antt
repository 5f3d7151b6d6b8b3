use Rattle.std.proofs.Common.{◌≡◌, length, ◌≤◌, arith, refl, ◌/◌}
use Rattle.std.specs.Prelude.{bit_and}
use Rattle.lic_rows.proofs.WordBits.{word_done, has_and}
use Rattle.lic_rows.proofs.and_into.Goals as goal

pub returns : goal.returns
returns c =
    let old = c.args.into.now in
    let from = c.args.from.now in
    let new = c.rest.into in
    let all : length new ≤ c.rest.at = omega (arith, c.rest-test.false) in
    let same : length old ≡ length new = omega (arith, c.rest.auto.into, c.lanes.auto.into) in
    let other : length from ≡ length new = omega (arith, c.requires, c.rest.auto.into, c.lanes.auto.into) in
    λ b. has_and old from new b (word_done bit_and old from new c.rest.at c.rest.invariant all same other refl (b / 64))
