use Rattle.std.proofs.Common.{◌≡◌, ◌+◌, ◌-◌, subst, arith}
use Rattle.lic_reverse.specs.Streaks.{IsChain}
use Rattle.lic_reverse.proofs.KnownStreaks.{chain-shorter}
use Rattle.lic_reverse.proofs.letters.streak.shortened.Goals as goal

pub loop-preserved : goal.loop-preserved
loop-preserved c = λ passes number place chain.
    let left = c.args.many - c.loop.counter in
    chain-shorter c.args.bytes.now passes (left + number) ((c.args.many - (c.loop.counter + 1)) + number) c.loop.from c.letter_end-from.result place
    (omega arith) c.letter_end-from.ensures (c.loop.invariant passes number place chain)

pub returns : goal.returns
returns c = λ passes number place chain.
    let none : (c.args.many - c.loop.counter) + number ≡ number = omega (arith, c.loop-test.false) in
    subst (λ n. IsChain c.args.bytes.now passes n c.loop.from place) none (c.loop.invariant passes number place chain)
