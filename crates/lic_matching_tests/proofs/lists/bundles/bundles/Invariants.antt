use Rattle.lic_bundles.specs.Bundles.{AreApart}
use Rattle.lic_matching_tests.proofs.lists.bundles.bundles.Given as goal

abbrev pub invariant-loop-one : goal.invariant-loop-one
invariant-loop-one l = AreApart l.all.items
