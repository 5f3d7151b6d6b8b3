use Rattle.std.proofs.Common.{take}
use Rattle.lic_ere.specs.Trees.{tree_of}
use Rattle.lic_places.specs.Places.{spelling_of}
use Rattle.lic_view.specs.Backward.{IsBack}
use Rattle.lic_reverse.specs.Passing.{passes_of}
use Rattle.lic_reverse.specs.Streaks.{IsStreakTo}
use Rattle.lic_reverse.specs.StreaksKnown.{IsLongest}
use Rattle.lic_reverse.proofs.letters.streaks.streaks_before.Given as goal

-- the places to which streaks lead from the spans so far were found
abbrev pub invariant-loop-span : goal.invariant-loop-span
invariant-loop-span l = record {
  back : IsBack l.keep l.view (IsStreakTo (passes_of (tree_of l.letters.ere.now)) l.letters.count l.letters.after) (take l.span-index l.spans) l.found.items;
  known : IsLongest (spelling_of l.view) (passes_of (tree_of l.letters.ere.now)) l.letters.count l.known;
}
