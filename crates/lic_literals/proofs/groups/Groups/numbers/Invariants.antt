-- The literals without a window, and those of the windows so far.
use Rattle.std.proofs.Common.{ℕ, Contains, map, take}
use Rattle.lic_literals.specs.Groups.{sharing_of}
use Rattle.lic_literals.proofs.groups.Groups.numbers.Given as goal

abbrev pub invariant-loop-one : goal.invariant-loop-one
invariant-loop-one l = record {
  short : (k : ℕ) → Contains l.self.short.items k → Contains l.numbers.items k;
  sharing : (window k : ℕ) → Contains (map (λ s. s.window) (take l.one-index l.one-items)) window →
      Contains (sharing_of l.self window) k → Contains l.numbers.items k;
}
