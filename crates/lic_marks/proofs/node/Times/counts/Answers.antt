use Rattle.lic_marks.proofs.Counted.{weight-bounded, weight-unbounded}
use Rattle.lic_marks.proofs.node.Times.counts.Goals as goal

pub returns-in-Bounded : goal.returns-in-Bounded
returns-in-Bounded c = λ r. rw c.in-Bounded.is (weight-bounded r c.in-Bounded.needed c.in-Bounded.more)

pub returns-in-Unbounded : goal.returns-in-Unbounded
returns-in-Unbounded c = λ r. rw c.in-Unbounded.is (weight-unbounded r c.in-Unbounded.before)
