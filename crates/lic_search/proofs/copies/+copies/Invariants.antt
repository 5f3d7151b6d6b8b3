use Rattle.lic_search.specs.Copies.{AreCopies}
use Rattle.lic_search.proofs.copies.+copies.Given as goal

-- the parts from this one on are copies
abbrev pub invariant-copies_before-loop-number : goal.invariant-copies_before-loop-number
invariant-copies_before-loop-number l = AreCopies l.parts l.end l.text l.number l.count
