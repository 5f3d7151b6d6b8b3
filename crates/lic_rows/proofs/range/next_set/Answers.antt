use Rattle.std.proofs.Common.{ℕ, Bool, ◌<◌, arith}
use Rattle.lic_rows.specs.Bits.{has}
use Rattle.lic_rows.proofs.Finds.{index_after, index_wanted, none_before}
use Rattle.lic_rows.proofs.range.next_set.Goals as goal

pub returns-then-found-to-clause-found : goal.returns-then-found-to-clause-found
returns-then-found-to-clause-found c =
    let wanted : ℕ → Bool = λ b. has c.args.row.now b in
    let some : 0 < c.loop-word.word = omega (arith, c.if-word-eq0.false) in (
      index_after wanted c.args.from c.args.to c.requires.order c.loop-word.at c.loop-word.word c.loop-word.invariant some,
      c.if-found-to.true,
      index_wanted wanted c.args.from c.args.to c.requires.order c.loop-word.at c.loop-word.word c.loop-word.invariant some,
      none_before wanted c.args.from c.args.to c.requires.order c.loop-word.at c.loop-word.word c.loop-word.invariant some,
    )

pub returns-else-found-to-clause-none : goal.returns-else-found-to-clause-none
returns-else-found-to-clause-none c =
    let wanted : ℕ → Bool = λ b. has c.args.row.now b in
    let some : 0 < c.loop-word.word = omega (arith, c.if-word-eq0.false) in
    λ b after before. none_before wanted c.args.from c.args.to c.requires.order c.loop-word.at c.loop-word.word c.loop-word.invariant some b after
    (omega (arith, c.if-found-to.false, before))
