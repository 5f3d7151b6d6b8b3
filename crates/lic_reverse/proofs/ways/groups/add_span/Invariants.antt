-- The places of the numbers so far were added.
use Rattle.std.proofs.Common.{[], ◌∷◌}
use Rattle.lic_reverse.specs.LetterGroups.{AddsPlaces, IsPieceOf}
use Rattle.lic_view.proofs.Numbers.{Below}
use Rattle.lic_reverse.proofs.ways.groups.add_span.Given as goal

abbrev pub invariant-loop-number : goal.invariant-loop-number
invariant-loop-number l = AddsPlaces l.view (IsPieceOf (l.span ∷ [])) (Below l.view l.span l.number) l.fn.lists.items l.lists.items
