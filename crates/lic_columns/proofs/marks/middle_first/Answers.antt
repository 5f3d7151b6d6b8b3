use Rattle.std.proofs.Common.{◌≡◌, ℕ, ◌*◌, ◌%◌, ◌==◌, false, length, ap, sym, ◌∙◌}
use Rattle.lic_columns.specs.Masks.{flag_before}
use Rattle.lic_columns.specs.Marks.{same_as_next, middles}
use Rattle.lic_letters.proofs.BitLemmas.{has_bit_zero}
use Rattle.lic_columns.proofs.FlagLemmas.{first_is}
use Rattle.lic_columns.proofs.PlainColumns.{column_inside, no_middle}
use Rattle.lic_columns.proofs.marks.middle_first.Goals as goal

pub of_column-pairs-requires-clause-inside : goal.of_column-pairs-requires-clause-inside
of_column-pairs-requires-clause-inside c =
    column_inside c.args.marks.now c.args.k c.column.result (length c.args.bytes.now) c.column.type_inv (record { bit = c.column.ensures }) c.requires.long

pub returns-then-before-eq0 : goal.returns-then-before-eq0
returns-then-before-eq0 c =
    let same = same_as_next c.args.bytes.now c.args.marks.now in
    let k : ℕ = c.args.k in
    let none : flag_before same (k * 64) ≡ false = sym c.requires.before.last ∙ ap (λ n. n % 2 == 1) c.if-before-eq0.true in
    has_bit_zero 0 ∙ sym (no_middle same (k * 64) none)

pub returns : goal.returns
returns c =
    let marks = c.args.marks.now in
    let same = same_as_next c.args.bytes.now marks in
    let k : ℕ = c.args.k in
    let pairs = c.of_column-pairs.ensures marks c.requires.long c.requires.letters (record { bit = c.column.ensures }) (record { bit = c.column-2.ensures }) in
    first_is c.middles_of.result k (middles same) (c.middles_of.ensures same k c.requires.before pairs.0)
