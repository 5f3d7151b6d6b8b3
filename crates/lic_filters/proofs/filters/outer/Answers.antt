use Rattle.std.proofs.Common.{◌≡◌, subst, sym, ◌∙◌}
use Rattle.lic_filters.specs.Filters.{tight_of}
use Rattle.lic_filters.proofs.FilterLaws.{tight_of-tight_of}
use Rattle.lic_filters.proofs.filters.outer.Goals as goal

pub outermost-requires : goal.outermost-requires
outermost-requires c = subst (λ list. tight_of list ≡ list) (sym c.in_ok-found.ensures) (tight_of-tight_of c.args.triples.now)
