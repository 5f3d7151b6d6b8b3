use Rattle.std.proofs.Common.{◌≡◌, ℕ, ◌*◌, ◌<◌, false, length, sym, ◌∙◌}
use Rattle.lic_columns.specs.Masks.{flag_before}
use Rattle.lic_columns.specs.Marks.{same_as_next, kept_in}
use Rattle.lic_letters.proofs.BitLemmas.{has_bit_zero}
use Rattle.lic_columns.proofs.PlainColumns.{nothing_close, column_inside, kept_here, none_joined, same_on, alike_on, middle_on, close_on}
use Rattle.lic_columns.proofs.marks.Carried.next.Goals as goal

pub of_column-pairs-requires-clause-inside : goal.of_column-pairs-requires-clause-inside
of_column-pairs-requires-clause-inside c =
    column_inside c.args.marks.now c.args.k c.args.mark (length c.args.bytes.now) c.ranges.mark.fits c.requires.mark c.requires.long

pub returns-then-pairs-self-eq0 : goal.returns-then-pairs-self-eq0
returns-then-pairs-self-eq0 c =
    let bytes = c.args.bytes.now in
    let letters = c.args.letters.now in
    let marks = c.args.marks.now in
    let k : ℕ = c.args.k in
    let have = c.requires.letters in
    let long = c.requires.long in
    let is = c.requires.carried in
    let none = nothing_close c.of_column-pairs.result.alike c.args.self.now.pairs.alike c.if-pairs-self-eq0.true in
    let alike = (c.of_column-pairs.ensures marks long have c.requires.mark c.requires.after).1 in
    let before : flag_before (same_as_next letters marks) (k * 64) ≡ false = sym is.alike.last ∙ none.1 in
    let here = λ (i : ℕ) (small : i < 64). sym (alike.bit i small) ∙ none.0 i in
    record {
      kept = record { bit = λ i small. c.requires.mark.bit i small ∙ kept_here bytes letters marks have long k before here c.args.separators i small };
      joined = record { bit = λ i small. has_bit_zero i ∙ sym (none_joined bytes letters marks have long k before here c.args.separators i small) };
      carried = record {
        same = same_on bytes letters marks have long k before here _ is.same;
        alike = alike_on bytes letters marks have long k before here _ is.alike;
        middle = middle_on bytes letters marks have long k before here _ is.middle;
        close = close_on bytes letters marks have long k before here _ (kept_in c.args.separators bytes marks) is.close;
      };
    }
