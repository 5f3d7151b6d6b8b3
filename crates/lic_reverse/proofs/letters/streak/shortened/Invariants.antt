use Rattle.std.proofs.Common.{ℕ, ◌+◌, ◌-◌, Bool}
use Rattle.lic_reverse.specs.Streaks.{IsChain}
use Rattle.lic_reverse.proofs.letters.streak.shortened.Given as goal

-- of the letters that go, `l.many - l.counter` are still there
abbrev pub invariant-loop : goal.invariant-loop
invariant-loop l = (passes : ℕ → Bool) (number place : ℕ) → IsChain l.bytes passes (l.many + number) l.low place →
    IsChain l.bytes passes ((l.many - l.counter) + number) l.from place
