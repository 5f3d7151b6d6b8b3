use Rattle.std.proofs.Common.{◌<◌}
use Rattle.std.specs.List.{All}
use Rattle.lic_bundles.specs.Bundles.{AreApart}
use Rattle.lic_matching_tests.proofs.lists.bundles.overlapping.Given as goal

abbrev pub invariant-loop-number : goal.invariant-loop-number
invariant-loop-number l = AreApart l.all.items × All (λ b. b.template < l.number) l.all.items
