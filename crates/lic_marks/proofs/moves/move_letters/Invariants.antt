use Rattle.std.proofs.Common.{◌≡◌, ◌+◌, ◌-◌, ◌≤◌, ◌==◌, length, get_or}
use Rattle.lic_marks.proofs.Moving.{Falls}
use Rattle.lic_marks.proofs.moves.move_letters.Given as goal

abbrev pub invariant-loop-to : goal.invariant-loop-to
invariant-loop-to l = record {
  begun : l.at ≤ l.to;
  within : l.to ≤ l.at + length l.fn.text;
  long : length l.row ≡ length l.fn.row;
  falls : Falls (λ j. l.fn.letter == get_or l.fn.text j 0) l.fn.row l.at (length l.fn.text) l.row l.to;
}

abbrev pub decreases-loop-to : goal.decreases-loop-to
decreases-loop-to l = l.to - l.at
