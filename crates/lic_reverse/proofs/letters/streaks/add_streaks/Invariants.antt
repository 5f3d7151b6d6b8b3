use Rattle.lic_ere.specs.Trees.{tree_of}
use Rattle.lic_places.specs.Places.{spelling_of}
use Rattle.lic_reverse.specs.Passing.{passes_of}
use Rattle.lic_reverse.specs.Streaks.{IsStreakTo}
use Rattle.lic_reverse.specs.StreaksKnown.{IsLongest}
use Rattle.lic_reverse.proofs.KeptLoops.{KeepsBelow}
use Rattle.lic_reverse.proofs.letters.streaks.add_streaks.Given as goal

-- the places to which streaks lead from the numbers so far were added
abbrev pub invariant-loop-number : goal.invariant-loop-number
invariant-loop-number l = record {
  adds : KeepsBelow l.keep l.view (IsStreakTo (passes_of (tree_of l.letters.ere.now)) l.letters.count l.letters.after) l.span l.number l.fn.found.items l.found.items;
  known : IsLongest (spelling_of l.view) (passes_of (tree_of l.letters.ere.now)) l.letters.count l.known;
}
