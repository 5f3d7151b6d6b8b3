-- The places so far that come after a letter that passes.
use Rattle.lic_ere.specs.Trees.{tree_of}
use Rattle.lic_reverse.specs.Passing.{passes_of}
use Rattle.lic_reverse.specs.PassingPlaces.{LeadsToSome}
use Rattle.lic_reverse.proofs.PassingLemmas.{AreThoseBefore}
use Rattle.lic_reverse.proofs.letters.passing.ends_in.Given as goal

abbrev pub invariant-loop-place : goal.invariant-loop-place
invariant-loop-place l = AreThoseBefore (LeadsToSome l.view (passes_of (tree_of l.ere))) l.stretch.low l.place l.ends.items
