use Rattle.std.proofs.Common.{◌-◌, ◌≤◌}
use Rattle.lic_ere.specs.Trees.{tree_of}
use Rattle.lic_places.specs.Places.{spelling_of}
use Rattle.lic_reverse.specs.Passing.{passes_of}
use Rattle.lic_reverse.specs.Streaks.{IsChain}
use Rattle.lic_reverse.proofs.letters.streak.streak_back.Given as goal

-- `l.number` letters that pass are from there up to the place
abbrev pub invariant-loop-low : goal.invariant-loop-low
invariant-loop-low l = (l.number ≤ l.count) × IsChain (spelling_of l.view) (passes_of (tree_of l.ere)) l.number l.low l.place

-- how many may be taken yet
abbrev pub decreases-loop-low : goal.decreases-loop-low
decreases-loop-low l = l.count - l.number
