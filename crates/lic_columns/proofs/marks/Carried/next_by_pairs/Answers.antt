use Rattle.std.proofs.Common.{◌≡◌, ℕ, ◌+◌, ◌*◌, ◌&&◌, true, bit_and, get_or, refl, ap, sym, ◌∙◌, arith}
use Rattle.std.proofs.lemmas.Bool.{and_parts}
use Rattle.lic_columns.specs.Masks.{IsColumn}
use Rattle.lic_columns.specs.Marks.{same_as_next, middles, kept_in, is_joining}
use Rattle.lic_letters.proofs.BitLemmas.{has_bit_and}
use Rattle.lic_columns.proofs.ColumnLemmas.{ends_before, kept_is_mark, close_next, may_join, set_inside}
use Rattle.lic_columns.proofs.MarkLemmas.{joined_at, length-kept}
use Rattle.lic_columns.proofs.marks.Carried.next_by_pairs.Goals as goal
use Rattle.lic_trim.specs.PieceLengths.{has_bit}

pub middle_first-after-requires-clause-before : goal.middle_first-after-requires-clause-before
middle_first-after-requires-clause-before c = ends_before _ c.args.k (same_as_next c.args.bytes.now c.args.marks.now) c.requires.same

pub joining-joined-requires : goal.joining-joined-requires
joining-joined-requires c = λ i small set.
    let bytes = c.args.bytes.now in
    let marks = c.args.marks.now in
    let k : ℕ = c.args.k in
    let same = same_as_next bytes marks in
    let before = c.requires.carried in
    let middle = c.middles_of-middle.ensures same k before.same c.requires.same in
    let kept : IsColumn c.kept_of-kept.result (kept_in c.args.separators bytes marks) k =
    c.kept_of-kept.ensures (middles same) marks k before.middle middle c.middle_first-after.ensures (record { bit = c.column.ensures }) in
    let bit : has_bit c.kept_of-kept.result i ≡ true = (and_parts _ _ (sym (has_bit_and c.kept_of-kept.result _ i) ∙ set)).0 in
    let inside = set_inside (kept_in c.args.separators bytes marks) (k * 64 + i) (sym (kept.bit i small) ∙ bit) in
    omega (arith, inside, length-kept c.args.separators bytes marks, c.requires.long, c.requires.letters.long)

pub returns : goal.returns
returns c =
    let bytes = c.args.bytes.now in
    let letters = c.args.letters.now in
    let marks = c.args.marks.now in
    let k : ℕ = c.args.k in
    let kept_marks = kept_in c.args.separators bytes marks in
    let same = same_as_next bytes marks in
    let before = c.requires.carried in
    let middle = c.middles_of-middle.ensures same k before.same c.requires.same in
    let kept : IsColumn c.kept_of-kept.result kept_marks k =
    c.kept_of-kept.ensures (middles same) marks k before.middle middle c.middle_first-after.ensures (record { bit = c.column.ensures }) in
    let alike : ℕ = c.args.pairs.alike in
    let close : ℕ = bit_and alike c.kept_of-kept.result in
    let are_marks = kept_is_mark c.args.separators bytes marks in
    record {
      kept = kept;
      joined = record {
        bit = λ i small. c.joining-joined.ensures i small
            ∙ ap (λ t. t && is_joining (get_or letters (k * 64 + i) 0))
            (may_join letters marks kept_marks are_marks k c.kept_of-kept.result alike c.args.self.now.close close c.moved_up.result
            kept c.requires.alike before.close refl c.moved_up.ensures.first c.moved_up.ensures.rest i small)
            ∙ sym (joined_at letters kept_marks (k * 64 + i));
      };
      carried = record {
        same = ends_before _ k same c.requires.same;
        alike = ends_before _ k (same_as_next letters marks) c.requires.alike;
        middle = ends_before _ k (middles same) middle;
        close = close_next letters marks kept_marks are_marks k c.kept_of-kept.result alike c.args.self.now.close close c.moved_up.result
            kept c.requires.alike before.close refl;
      };
    }
