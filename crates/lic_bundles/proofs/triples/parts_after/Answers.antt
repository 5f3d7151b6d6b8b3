use Rattle.std.proofs.Common.{rules}
use Rattle.std.proofs.lemmas.Fn.{always_returns_same}
use Rattle.lic_bundles.specs.Bundles.{first_of}
use Rattle.lic_bundles.proofs.Sorting.{IsNoLater-sorted}
use Rattle.lic_bundles.proofs.triples.parts_after.Goals as goal

pub returns-clause-sorted : goal.returns-clause-sorted
returns-clause-sorted c =
    IsNoLater-sorted c.sort_unstable_by_key.new.self.items
    (c.sort_unstable_by_key.ensures.sorted first_of (always_returns_same _ _ _ (λ a r f' k. search rules)))
