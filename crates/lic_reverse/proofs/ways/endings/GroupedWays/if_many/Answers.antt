-- Each list of the ways lies in the text.
use Rattle.std.proofs.Common.{sym, subst}
use Rattle.lic_view.specs.PlaceSets.{ArePlaced}
use Rattle.lic_reverse.specs.Tidily.{a_blank, a_letter, nothing}
use Rattle.lic_reverse.proofs.ways.endings.GroupedWays.if_many.Goals as goal

pub of-requires : goal.of-requires
of-requires c = subst (ArePlaced c.args.view.now) (sym c.deref.ensures.value) (c.requires nothing)

pub of-requires-2 : goal.of-requires-2
of-requires-2 c = subst (ArePlaced c.args.view.now) (sym c.deref-2.ensures.value) (c.requires a_letter)

pub of-requires-3 : goal.of-requires-3
of-requires-3 c = subst (ArePlaced c.args.view.now) (sym c.deref-3.ensures.value) (c.requires a_blank)
