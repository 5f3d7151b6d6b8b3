use Rattle.std.proofs.Common.{ℕ, Bool, ◌<◌, arith}
use Rattle.lic_rows.specs.Bits.{has}
use Rattle.lic_rows.proofs.Finds.{last_before, last_wanted, none_past}
use Rattle.lic_rows.proofs.range.last_set.Goals as goal

pub returns-then-from-found-clause-found : goal.returns-then-from-found-clause-found
returns-then-from-found-clause-found c =
    let wanted : ℕ → Bool = λ b. has c.args.row.now b in
    let some : 0 < c.loop-word.word = omega (arith, c.if-word-eq0.false) in (
      c.if-from-found.true,
      last_before wanted c.args.from c.args.to c.requires.order c.loop-word.at c.loop-word.word c.loop-word.invariant some,
      last_wanted wanted c.args.from c.args.to c.requires.order c.loop-word.at c.loop-word.word c.loop-word.invariant some,
      none_past wanted c.args.from c.args.to c.requires.order c.loop-word.at c.loop-word.word c.loop-word.invariant some,
    )

pub returns-else-from-found-clause-none : goal.returns-else-from-found-clause-none
returns-else-from-found-clause-none c =
    let wanted : ℕ → Bool = λ b. has c.args.row.now b in
    let some : 0 < c.loop-word.word = omega (arith, c.if-word-eq0.false) in
    λ b after before. none_past wanted c.args.from c.args.to c.requires.order c.loop-word.at c.loop-word.word c.loop-word.invariant some b
    (omega (arith, c.if-from-found.false, after)) before
