use Rattle.std.proofs.Common.{sym, subst}
use Rattle.lic_view.specs.Backward.{Keeps}
use Rattle.lic_view.specs.PlaceSets.{ArePlaced}
use Rattle.lic_reverse.specs.Tidily.{nothing}
use Rattle.lic_reverse.proofs.text_copies.places_of.Goals as goal

pub kept-requires : goal.kept-requires
kept-requires c = rw c.replace-places.ensures.value (subst (λ x. ArePlaced c.args.view.now x) (sym (c.in_ok-ways.ensures nothing)) c.requires)

pub returns : goal.returns
returns c = subst (λ x. Keeps c.args.keep x c.in_ok-kept.field-0.items) (c.in_ok-ways.ensures nothing) (rw c.replace-places.ensures.value at c.in_ok-kept.ensures)
