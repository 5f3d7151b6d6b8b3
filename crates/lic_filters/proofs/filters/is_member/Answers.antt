use Rattle.std.proofs.Common.{◌≡◌, ◌↔◌, true, subst, sym}
use Rattle.std.specs.List.{Contains}
use Rattle.lic_filters.proofs.Searching.{search-Contains}
use Rattle.lic_filters.proofs.filters.is_member.Goals as goal

pub returns : goal.returns
returns c =
    subst (λ b. (b ≡ true) ↔ Contains c.args.sorted.now c.args.triple.now) (sym c.is_ok.ensures.value)
    (search-Contains c.args.sorted.now c.args.triple.now c.binary_search.result c.requires c.binary_search.ensures.bound c.binary_search.ensures.position)
