-- One letter more, and then all of them.
use Rattle.std.proofs.Common.{◌≡◌, ◌+◌, ◌-◌, length, arith, subst, sym, refl}
use Rattle.lic_reverse.specs.LetterGroups.{EndIn}
use Rattle.lic_reverse.proofs.EndingLemmas.{AreLettersFrom, letters-end, letters-more, letters-none, some-changed}
use Rattle.lic_reverse.proofs.ways.endings.last_letters_of_sequence.Goals as goal

pub loop-number-init : goal.loop-number-init
loop-number-init c = record { from = omega arith; letters = letters-none c.args.subs.now (length c.args.subs.now) refl }

pub loop-number-preserved : goal.loop-number-preserved
loop-number-preserved c =
    let next : c.loop-number.number ≡ c.loop-number.number - 1 + 1 = omega (arith, c.loop-number-test.true) in
    record {
      from = omega (arith, c.loop-number-test.true, c.saturating_sub-first.ensures);
      letters = subst (AreLettersFrom c.args.subs.now (c.loop-number.number - 1)) (sym c.mixed-hash.ensures)
          (letters-more c.args.subs.now c.loop-number.number (c.loop-number.number - 1) c.loop-number.hash c.in-Some.letter c.index-subs-number.result next
          c.loop-number.invariant.letters c.index-subs-number.is c.in-Some.ensures.0 c.in-Some.ensures.1);
    }

pub returns-in_default : goal.returns-in_default
returns-in_default c =
    let subs = c.args.subs.now in
    some-changed _ _ c.hash_of_some.result
    (λ hash is. subst (EndIn _) (sym is.0)
    (letters-end subs c.loop-number.number c.loop-number.hash c.loop-number.invariant.letters (omega (arith, is.1, c.loop-number-test.true))
    (omega (arith, c.loop-number.invariant.from))))
    c.hash_of_some.ensures

pub returns : goal.returns
returns c =
    let subs = c.args.subs.now in
    some-changed _ _ c.hash_of_some-2.result
    (λ hash is. subst (EndIn _) (sym is.0)
    (letters-end subs c.loop-number.number c.loop-number.hash c.loop-number.invariant.letters
    (omega (arith, is.1, c.loop-number-test.false, c.saturating_sub-first.ensures)) (omega (arith, c.loop-number.invariant.from))))
    c.hash_of_some-2.ensures
