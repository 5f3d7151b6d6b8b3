use Rattle.std.proofs.Common.{◌≡◌, ℕ, ◌+◌, ◌*◌, ◌<◌, length, bit_and, ap, sym, ◌∙◌, arith}
use Rattle.std.proofs.lemmas.Nat.{and_le_l}
use Rattle.lic_letters.proofs.BitLemmas.{has_bit_zero}
use Rattle.lic_columns.proofs.ColumnLemmas.{none_alike, same_of_alike}
use Rattle.lic_columns.proofs.FlagLemmas.{first_is, after_is}
use Rattle.lic_columns.proofs.MarkLemmas.{none_same, some_same, same_at}
use Rattle.lic_columns.proofs.marks.Pairs.of_column.Goals as goal
use Rattle.lic_trim.specs.PieceLengths.{has_bit}

pub same_offsets-requires : goal.same_offsets-requires
same_offsets-requires c =
    let some : 0 < bit_and c.args.mark c.moved_down.result = omega (arith, c.if-both-eq0.false) in
    let inside : c.args.k * 64 < length c.args.bytes.now = c.requires.inside (omega (arith, some, and_le_l c.args.mark c.moved_down.result)) in
    omega (arith, inside, c.requires.long)

pub same_offsets-requires-2 : goal.same_offsets-requires-2
same_offsets-requires-2 c =
    let some : 0 < bit_and c.args.mark c.moved_down.result = omega (arith, c.if-both-eq0.false) in
    c.requires.inside (omega (arith, some, and_le_l c.args.mark c.moved_down.result))

pub returns-then-both-eq0 : goal.returns-then-both-eq0
returns-then-both-eq0 c = λ marks long have mark after.
    let bytes = c.args.bytes.now in
    let letters = c.args.letters.now in
    let k : ℕ = c.args.k in
    let here : ℕ = c.args.mark in
    let down : ℕ = c.moved_down.result in
    let next = after_is marks here c.args.after down k mark.bit (first_is c.args.after (k + 1) marks after) c.moved_down.ensures.last c.moved_down.ensures.rest in (
      record { bit = λ i small. none_same bytes marks k here down i small (mark.bit i small) (next i small) c.if-both-eq0.true ∙ sym (same_at bytes marks (k * 64 + i)) },
      record { bit = λ i small. none_same letters marks k here down i small (mark.bit i small) (next i small) c.if-both-eq0.true ∙ sym (same_at letters marks (k * 64 + i)) },
    )

pub returns-then-alike-eq0 : goal.returns-then-alike-eq0
returns-then-alike-eq0 c = λ marks long have mark after.
    let bytes = c.args.bytes.now in
    let letters = c.args.letters.now in
    let k : ℕ = c.args.k in
    let here : ℕ = c.args.mark in
    let down : ℕ = c.moved_down.result in
    let next = after_is marks here c.args.after down k mark.bit (first_is c.args.after (k + 1) marks after) c.moved_down.ensures.last c.moved_down.ensures.rest in
    let size : length letters ≡ length marks = have.long ∙ long in
    let alike = λ (i : ℕ) (small : i < 64).
    ap (λ m. has_bit m i) (sym c.if-alike-eq0.true)
    ∙ some_same letters marks k here down i small (mark.bit i small) (next i small) c.same_offsets.result size (λ inside. c.same_offsets.ensures i small inside) in (
      record {
        bit = λ i small. has_bit_zero i ∙ sym (none_alike bytes letters marks have long (k * 64 + i) (sym (alike i small) ∙ has_bit_zero i))
            ∙ sym (same_at bytes marks (k * 64 + i));
      },
      record { bit = λ i small. alike i small ∙ sym (same_at letters marks (k * 64 + i)) },
    )

pub returns : goal.returns
returns c = λ marks long have mark after.
    let bytes = c.args.bytes.now in
    let letters = c.args.letters.now in
    let k : ℕ = c.args.k in
    let here : ℕ = c.args.mark in
    let down : ℕ = c.moved_down.result in
    let next = after_is marks here c.args.after down k mark.bit (first_is c.args.after (k + 1) marks after) c.moved_down.ensures.last c.moved_down.ensures.rest in
    let size : length letters ≡ length marks = have.long ∙ long in
    let alike = λ (i : ℕ) (small : i < 64).
    some_same letters marks k here down i small (mark.bit i small) (next i small) c.same_offsets.result size (λ inside. c.same_offsets.ensures i small inside) in (
      record {
        bit = λ i small. same_of_alike bytes letters marks have long k i (bit_and (bit_and here down) c.same_offsets.result) c.same_offsets-2.result (alike i small)
            (λ inside. c.same_offsets-2.ensures i small inside)
            ∙ sym (same_at bytes marks (k * 64 + i));
      },
      record { bit = λ i small. alike i small ∙ sym (same_at letters marks (k * 64 + i)) },
    )
