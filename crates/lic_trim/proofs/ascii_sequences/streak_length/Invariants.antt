use Rattle.std.proofs.Common.{◌≡◌, ℕ, ◌+◌, ◌-◌, ◌<◌, ◌≤◌, length}
use Rattle.std.specs.Prelude.{slice_index}
use Rattle.lic_trim.specs.Walks.{walked}
use Rattle.lic_trim.proofs.ascii_sequences.streak_length.Given as goal

abbrev pub invariant-loop-count : goal.invariant-loop-count
invariant-loop-count l = record {
  within : l.index + l.count ≤ length l.line;
  some : 0 < l.count;
  same : (i : ℕ) → i < l.count → slice_index (walked l.side l.line) (l.index + i) ≡ slice_index (walked l.side l.line) l.index;
}

abbrev pub decreases-loop-count : goal.decreases-loop-count
decreases-loop-count l = length l.line - l.count
