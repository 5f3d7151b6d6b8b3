use Rattle.std.proofs.Common.{◌≡◌, ℕ, ◌+◌, ◌-◌, ◌*◌, ◌/◌, ◌∙◌, length, refl, ap, arith}
use Rattle.std.proofs.lemmas.List.Edits.{length-between}
use Rattle.std.specs.List.{slice_range}
use Rattle.lic_rows.specs.Bits.{has}
use Rattle.std.proofs.Common.{suc}
use Rattle.lic_rows.proofs.Shifts.{shifted}
use Rattle.lic_rows.proofs.Ends.{has_part, has_mid, below_mid, above_mid}
use Rattle.lic_rows.proofs.range.move_up_words.Goals as goal

pub returns-clause-kept : goal.returns-clause-kept
returns-clause-kept c =
    let first : ℕ = c.args.from / 64 in
    let last : ℕ = c.args.to / 64 in
    let len : length c.shift_words.new.row ≡ last + 1 - first =
    c.shift_words.auto.row ∙ length-between c.args.row.now first (last + 1) (omega (arith, c.requires.within)) in
    let kept = c.put_back.ensures.kept c.args.row.now refl refl
    (below_mid c.args.row.now first last (omega (arith, c.requires.order)) c.requires.within c.shift_words.new.row len)
    (above_mid c.args.row.now first last (omega (arith, c.requires.order)) c.requires.within c.shift_words.new.row len) in
    record {
      before = λ b low. c.put.ensures.other b (omega (arith, low)) ∙ kept.before b low;
      past = λ b high. c.put.ensures.other b (omega (arith, high, c.requires.order)) ∙ kept.past b high;
    }

pub returns-clause-rest : goal.returns-clause-rest
returns-clause-rest c = λ b low high.
    let first : ℕ = c.args.from / 64 in
    let last : ℕ = c.args.to / 64 in
    let size : length (slice_range c.args.row.now first (last + 1)) ≡ last + 1 - first =
    length-between c.args.row.now first (last + 1) (omega (arith, c.requires.within)) in
    let len : length c.shift_words.new.row ≡ last + 1 - first = c.shift_words.auto.row ∙ size in
    let up : suc b - first * 64 ≡ suc (b - first * 64) = omega (arith, low) in
    c.put.ensures.other (suc b) (omega (arith, low)) ∙ c.put_back.ensures.inside (suc b) (omega (arith, low)) high
    ∙ has_mid c.args.row.now first last (omega (arith, c.requires.order)) c.requires.within c.shift_words.new.row len
    (suc b) (omega (arith, low)) (omega (arith, high))
    ∙ ap (λ k. has c.shift_words.new.row k) up
    ∙ shifted (slice_range c.args.row.now first
    (last + 1)) c.shift_words.new.row c.shift_words.ensures.fits c.shift_words.ensures.first c.shift_words.ensures.rest
    (b - first * 64) (omega (arith, size, low, high, c.requires.order))
    ∙ has_part c.args.row.now first last (omega (arith, c.requires.order)) c.requires.within b (omega (arith, low)) (omega (arith, high))
