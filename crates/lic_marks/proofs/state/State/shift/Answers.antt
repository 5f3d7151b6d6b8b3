use Rattle.std.proofs.Common.{◌≡◌, Bool, not, true, false, refl, sym, ap, ◌∙◌}
use Rattle.lic_marks.specs.Marks.{shift}
use Rattle.lic_marks.specs.Rows.{marks_of}
use Rattle.lic_marks.specs.Nodes.{core_of}
use Rattle.lic_marks.proofs.Representing.{shift_over-joined, shift_over-needed, shift_over-free}
use Rattle.lic_marks.proofs.state.State.shift.Goals as goal

not_so : (b : Bool) → not b ≡ true → b ≡ false
not_so true h = cc
not_so false h = refl

so : (b : Bool) → not b ≡ false → b ≡ true
so true h = refl
so false h = cc

pub returns-then-not-letter-clause-marks : goal.returns-then-not-letter-clause-marks
returns-then-not-letter-clause-marks c =
    c.step.ensures.marks ∙ sym (shift_over-joined (core_of c.args.tree.now) _ _ _ _ _ _ (not_so _ c.if-not-letter.true))

pub returns-then-letter-clause-marks : goal.returns-then-letter-clause-marks
returns-then-letter-clause-marks c =
    let r = core_of c.args.tree.now in
    c.step-then-letter.ensures.marks ∙ ap (λ t. shift r true false (marks_of r t) c.args.letter.letter) c.copy_from.ensures
    ∙ sym (shift_over-needed r _ _ _ _ _ _ (so _ c.if-not-letter.false) c.if-letter.true)

pub returns-else-letter-clause-marks : goal.returns-else-letter-clause-marks
returns-else-letter-clause-marks c =
    let r = core_of c.args.tree.now in
    let after_blanks = c.step-else-letter.ensures.marks
    ∙ ap (λ t. shift r true false (marks_of r t) c.args.letter.letter) c.copy_from-else-letter.ensures in
    c.join.ensures.marks r ∙ rw (c.step-else-letter-2.ensures.marks, after_blanks) refl
    ∙ sym (shift_over-free r _ _ _ _ _ _ (so _ c.if-not-letter.false) c.if-letter.false)
