use Rattle.std.proofs.Common.{◌≡◌, ◌∙◌, ◌&&◌, false, sym, ap, arith}
use Rattle.std.specs.Prelude.{nat_le}
use Rattle.std.proofs.lemmas.Bool.{le-leb}
use Rattle.std.proofs.lemmas.Bool.Decides.{nat_tests}
use Rattle.lic_trim.specs.Sources.{chars_of}
use Rattle.lic_trim.proofs.ItemLemmas.{not_many, numbers_is, numbers_stop, numbers_other, numbers_end}
use Rattle.lic_trim.proofs.item.are_numbers.Goals as goal

pub returns-then-digits-lt1 : goal.returns-then-digits-lt1
returns-then-digits-lt1 c =
    sym (sym (numbers_is (chars_of c.args.text.now)) ∙ sym c.loop-s.invariant.noted
    ∙ numbers_stop c.loop-s.digits c.args.text.now c.loop-s.s-index c.loop-s-test.true c.if-s-eq46.true
    (not_many c.loop-s.digits c.then-digits-lt1.either))

pub returns-else-is_ascii_digit : goal.returns-else-is_ascii_digit
returns-else-is_ascii_digit c =
    sym (sym (numbers_is (chars_of c.args.text.now)) ∙ sym c.loop-s.invariant.noted
    ∙ numbers_other c.loop-s.digits c.args.text.now c.loop-s.s-index c.loop-s-test.true c.if-s-eq46.false
    (sym c.if-is_ascii_digit.ensures.value))

pub returns-then-digits-ge1 : goal.returns-then-digits-ge1
returns-then-digits-ge1 c =
    let digits = c.loop-s.digits in
    sym (sym (numbers_is (chars_of c.args.text.now)) ∙ sym c.loop-s.invariant.noted
    ∙ numbers_end digits c.args.text.now c.loop-s.s-index c.loop-s-test.false
    ∙ ap (λ b. b && nat_le digits 3) (le-leb 1 digits c.if-digits-ge1.true))

pub returns-else-digits-ge1 : goal.returns-else-digits-ge1
returns-else-digits-ge1 c =
    let digits = c.loop-s.digits in
    let none : nat_le 1 digits ≡ false = grind (arith, nat_tests) in
    none ∙ sym (sym (numbers_is (chars_of c.args.text.now)) ∙ sym c.loop-s.invariant.noted
    ∙ numbers_end digits c.args.text.now c.loop-s.s-index c.loop-s-test.false
    ∙ ap (λ b. b && nat_le digits 3) none)
