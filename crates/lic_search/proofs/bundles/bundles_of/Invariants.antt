-- A bundle for each span of tokens so far.
use Rattle.std.proofs.Common.{◌≡◌, map, take}
use Rattle.lic_search.proofs.BundleLemmas.{bundle_from}
use Rattle.lic_search.proofs.bundles.bundles_of.Given as goal

abbrev pub invariant-loop-first : goal.invariant-loop-first
invariant-loop-first l = l.bundles.items ≡ map (bundle_from l.template) (take l.first-index l.first-items)
