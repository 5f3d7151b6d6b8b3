use Rattle.std.proofs.Common.{◌-◌, ◌≤◌, length}
use Rattle.lic_kind.specs.LineRules.{rules_of}
use Rattle.lic_trim.specs.Walks.{walked, is_walked_piece}
use Rattle.lic_trim.proofs.EndsAhead.{AreEndsFrom}
use Rattle.lic_trim.proofs.ascii_sequences.sequence_by_indices.Given as goal

abbrev pub invariant-loop-at : goal.invariant-loop-at
invariant-loop-at l = record {
  from : AreEndsFrom (is_walked_piece (rules_of l.rules) l.side) (walked l.side l.line) l.at l.ends;
  inside : l.at ≤ length l.line;
}

abbrev pub decreases-loop-at : goal.decreases-loop-at
decreases-loop-at l = length l.line - l.at
