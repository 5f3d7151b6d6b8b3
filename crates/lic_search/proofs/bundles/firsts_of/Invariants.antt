-- The tokens with which words begin at the places of the spans so far.
use Rattle.std.proofs.Common.{take}
use Rattle.lic_search.proofs.BundleLemmas.{AreFirstsOf}
use Rattle.lic_search.proofs.bundles.firsts_of.Given as goal

abbrev pub invariant-loop-span : goal.invariant-loop-span
invariant-loop-span l = AreFirstsOf l.view (take l.span-index l.spans) l.firsts.items
