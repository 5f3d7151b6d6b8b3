-- The ends in the stretches so far.
use Rattle.std.proofs.Common.{take}
use Rattle.lic_places.specs.Places.{spelling_of}
use Rattle.lic_literals.specs.Ends.{EndsAt}
use Rattle.lic_view.specs.Wide.{AreThoseIn}
use Rattle.lic_view.proofs.over.letters.wide_ends.Given as goal

abbrev pub invariant-loop-stretch : goal.invariant-loop-stretch
invariant-loop-stretch l = AreThoseIn (EndsAt (spelling_of l.view) l.letters) (take l.stretch-index l.stretch-items) l.ends.items
