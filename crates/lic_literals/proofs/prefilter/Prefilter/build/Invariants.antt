-- The literals so far have their keys.
use Rattle.std.proofs.Common.{◌≡◌, map, take}
use Rattle.lic_literals.specs.Keys.{AreKeyed, plain}
use Rattle.lic_literals.proofs.prefilter.Prefilter.build.Given as goal

abbrev pub invariant-loop-number : goal.invariant-loop-number
invariant-loop-number l = record {
  keyed : AreKeyed (plain l.own.items) l.keys.items l.tables;
  same : plain l.own.items ≡ map (λ literal. literal.now) (take l.number l.literals);
}
