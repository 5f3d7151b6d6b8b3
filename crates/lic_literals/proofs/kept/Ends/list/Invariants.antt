-- The ends by the offsets so far.
use Rattle.std.proofs.Common.{◌≡◌, take}
use Rattle.lic_literals.specs.Kept.{shifted}
use Rattle.lic_literals.proofs.kept.Ends.list.Given as goal

abbrev pub invariant-loop-offset : goal.invariant-loop-offset
invariant-loop-offset l = l.ends.items ≡ shifted l.self.to_end l.self.limit (take l.offset-index l.offset-items)
