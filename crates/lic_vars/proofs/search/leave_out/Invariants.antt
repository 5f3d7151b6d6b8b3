-- The values so far, and those of the instructions that are still to be left out.
use Rattle.std.proofs.Common.{◌≡◌, ℕ, ◌-◌, ◌≤◌, List, ◌++◌, map}
use Rattle.lic_tokens.specs.declared.token.Span.{Span}
use Rattle.lic_vars.specs.Cuts.{last_moves}
use Rattle.lic_vars.specs.Recorded.{recorded}
use Rattle.lic_vars.specs.Views.{value_of}
use Rattle.lic_vars.proofs.search.leave_out.Given as goal

abbrev pub invariant-loop-walk : goal.invariant-loop-walk
invariant-loop-walk l = record {
  above : l.end ≤ l.walk.left;
  below : l.walk.left ≤ l.initial.walk.left;
  cut : l.walk.cut ≡ l.initial.walk.cut;
  letters : l.walk.letters.now ≡ l.initial.walk.letters.now;
  values : (r : List ℕ) (letters : List Span)
      → map value_of l.walk.values.items ++ recorded (l.size - (l.initial.walk.left - l.walk.left)) (last_moves l.instructions l.walk.left) r letters
      ≡ map value_of l.initial.walk.values.items ++ recorded l.size (last_moves l.instructions l.initial.walk.left) r letters;
}

abbrev pub decreases-loop-walk : goal.decreases-loop-walk
decreases-loop-walk l = l.walk.left
