use Rattle.std.proofs.Common.{◌≡◌, ◌-◌, ◌≤◌, length}
use Rattle.lic_phrases.specs.Settling.{nothing_kept}
use Rattle.lic_rewriting.specs.Taking.{HasTakenUpTo}
use Rattle.lic_rewriting.proofs.rewriting.Rewriting.take_plain.Given as goal

-- the tokens so far have been taken, and none is kept back
abbrev pub invariant-loop-next : goal.invariant-loop-next
invariant-loop-next l = record {
  from : l.i ≤ l.next;
  within : l.next ≤ length l.section;
  taken : HasTakenUpTo l.section l.i l.next l.fn.self l.self;
  none : l.self.rewriter ≡ nothing_kept;
  phrases : l.self.phrases.now ≡ l.fn.self.phrases.now;
  settled : l.self.settled.items ≡ l.fn.self.settled.items;
}

abbrev pub decreases-loop-next : goal.decreases-loop-next
decreases-loop-next l = length l.section - l.next
