use Rattle.std.proofs.Common.{◌≡◌, ℕ, ◌+◌, ◌-◌, ◌*◌, ◌/◌, ◌∙◌, length, refl, ap, arith}
use Rattle.std.proofs.lemmas.List.Edits.{length-between}
use Rattle.lic_rows.specs.Bits.{has}
use Rattle.std.proofs.Common.{◌&&◌}
use Rattle.std.specs.List.{slice_range}
use Rattle.std.proofs.lemmas.Bool.{le-ltb}
use Rattle.lic_rows.proofs.Shifts.{and-false}
use Rattle.lic_rows.proofs.Ends.{has_mid, below_mid, above_mid}
use Rattle.lic_rows.proofs.range.clear_words.Goals as goal

pub returns-clause-kept : goal.returns-clause-kept
returns-clause-kept c =
    let first : ℕ = c.args.from / 64 in
    let last : ℕ = c.args.to / 64 in
    let len : length c.clear_from.new.row ≡ last + 1 - first =
    c.clear_from.auto.row ∙ length-between c.args.row.now first (last + 1) (omega (arith, c.requires.within)) in
    c.put_back.ensures.kept c.args.row.now refl refl
    (below_mid c.args.row.now first last (omega (arith, c.requires.order)) c.requires.within c.clear_from.new.row len)
    (above_mid c.args.row.now first last (omega (arith, c.requires.order)) c.requires.within c.clear_from.new.row len)

pub returns-clause-inside : goal.returns-clause-inside
returns-clause-inside c = λ b low high.
    let first : ℕ = c.args.from / 64 in
    let last : ℕ = c.args.to / 64 in
    let len : length c.clear_from.new.row ≡ last + 1 - first =
    c.clear_from.auto.row ∙ length-between c.args.row.now first (last + 1) (omega (arith, c.requires.within)) in
    c.put_back.ensures.inside b low high
    ∙ has_mid c.args.row.now first last (omega (arith, c.requires.order)) c.requires.within c.clear_from.new.row len b (omega (arith, low)) (omega (arith, high))
    ∙ c.clear_from.ensures (b - first * 64)
    ∙ ap (λ t. has (slice_range c.args.row.now first (last + 1)) (b - first * 64) && t)
    (le-ltb (b - first * 64) 0 (omega arith))
    ∙ and-false (has (slice_range c.args.row.now first (last + 1)) (b - first * 64))
