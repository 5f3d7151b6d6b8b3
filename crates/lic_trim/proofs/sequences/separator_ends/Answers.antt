use Rattle.std.proofs.lemmas.Bool.{le-leb}
use Rattle.std.proofs.lemmas.Bool.Decides.{nat_tests}
use Rattle.std.proofs.Common.{◌≡◌, ◌∙◌, ◌-◌, ◌&&◌, Bool, true, false, refl, sym, ap, arith, ℕ}
use Rattle.std.specs.Prelude.{slice_index, nat_le}
use Rattle.lic_kind.specs.Kinds.{kind_of, is_mark_kind}
use Rattle.lic_trim.specs.Sources.{chars_of}
use Rattle.lic_trim.specs.Walks.{walked}
use Rattle.lic_trim.proofs.KindEnds.{separator_ends}
use Rattle.lic_trim.proofs.Walking.{length-walked_chars}
use Rattle.lic_trim.proofs.sequences.separator_ends.Goals as goal

and_false : (b : Bool) → (b && false) ≡ false
and_false true = refl
and_false false = refl

and_true : (b : Bool) → (b && true) ≡ b
and_true true = refl
and_true false = refl

pub returns-then-end-first-ge3 : goal.returns-then-end-first-ge3
returns-then-end-first-ge3 c =
    let line = walked c.args.side (chars_of c.args.line.now) in
    let many = length-walked_chars c.args.side c.args.line.now in
    let mark = λ (d : ℕ). is_mark_kind (kind_of d) in
    c.is_mark.ensures ∙ ap mark c.char_at.ensures
    ∙ sym (separator_ends c.args.flags.now line c.args.end (c.args.end - 1) (omega arith) (omega arith) c.args.first c.requires.front
    ∙ ap (λ b. mark (slice_index line (c.args.end - 1)) && b) (le-leb 3 (c.args.end - c.args.first) (omega arith))
    ∙ and_true (mark (slice_index line (c.args.end - 1))))

pub returns-else-end-first-ge3 : goal.returns-else-end-first-ge3
returns-else-end-first-ge3 c =
    let line = walked c.args.side (chars_of c.args.line.now) in
    let many = length-walked_chars c.args.side c.args.line.now in
    let few : nat_le 3 (c.args.end - c.args.first) ≡ false = grind (arith, nat_tests) in
    let mark = λ (d : ℕ). is_mark_kind (kind_of d) in
    few ∙ sym (separator_ends c.args.flags.now line c.args.end (c.args.end - 1) (omega arith) (omega arith) c.args.first c.requires.front
    ∙ ap (λ b. mark (slice_index line (c.args.end - 1)) && b) few
    ∙ and_false (mark (slice_index line (c.args.end - 1))))
