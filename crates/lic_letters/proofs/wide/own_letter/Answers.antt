use Rattle.std.proofs.Common.{ℕ, List, sym, subst}
use Rattle.lic_letters.specs.Simple.{AreOwn}
use Rattle.lic_letters.proofs.WideBytes.{letter_own}
use Rattle.lic_letters.proofs.wide.own_letter.Goals as goal

pub returns-then-is_own-clause-own : goal.returns-then-is_own-clause-own
returns-then-is_own-clause-own c = λ some.
    let bytes : List ℕ = c.args.bytes.now in
    let first = c.in-Some.ensures in
    let yes = c.if-is_own.true in
    subst (AreOwn bytes) (sym c.len_utf8.ensures.value)
    (letter_own c.in-Some.c bytes first.scalar first.beyond (c.is_own.ensures.word yes) (c.is_own.ensures.letter yes) first.within first.bytes)
