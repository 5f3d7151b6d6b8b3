use Rattle.std.proofs.Common.{◌≡◌, ◌-◌, ◌≤◌, [], length}
use Rattle.lic_rewriting.specs.Taking.{HasTakenUpTo}
use Rattle.lic_rewriting.proofs.rewriting.Rewriting.take_until.Given as goal

-- the tokens so far have been taken
abbrev pub invariant-loop-next : goal.invariant-loop-next
invariant-loop-next l = record {
  within : l.next ≤ length l.section;
  taken : HasTakenUpTo l.section l.from l.next l.fn.self l.self;
  phrases : l.self.phrases.now ≡ l.fn.self.phrases.now;
  emptied : l.self.settled.items ≡ [];
}

abbrev pub decreases-loop-next : goal.decreases-loop-next
decreases-loop-next l = length l.section - l.next
