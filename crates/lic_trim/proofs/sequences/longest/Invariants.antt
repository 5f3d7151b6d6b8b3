use Rattle.std.proofs.Common.{ℕ, ◌≤◌, ◌<◌, length, List}
use Rattle.std.specs.Prelude.{slice_index_or}
use Rattle.lic_kind.specs.LineRules.{texts_of}
use Rattle.lic_trim.proofs.sequences.longest.Given as goal

abbrev pub invariant-loop-i : goal.invariant-loop-i
invariant-loop-i l = (k : ℕ) (d : List ℕ) → k < l.i → length (slice_index_or (texts_of l.texts) k d) ≤ l.longest
