-- The places in the stretches so far.
use Rattle.std.proofs.Common.{take}
use Rattle.lic_ere.specs.Trees.{tree_of}
use Rattle.lic_reverse.specs.Passing.{passes_of}
use Rattle.lic_reverse.specs.PassingPlaces.{LeadsToSome}
use Rattle.lic_view.specs.Wide.{AreThoseIn}
use Rattle.lic_reverse.proofs.letters.passing.wide_ends.Given as goal

abbrev pub invariant-loop-stretch : goal.invariant-loop-stretch
invariant-loop-stretch l = AreThoseIn (LeadsToSome l.view (passes_of (tree_of l.ere))) (take l.stretch-index l.stretch-items) l.ends.items
