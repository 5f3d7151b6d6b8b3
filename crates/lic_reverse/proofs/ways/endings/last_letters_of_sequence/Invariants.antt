-- The patterns from this one on are letters with this hash.
use Rattle.std.proofs.Common.{◌≤◌, ◌-◌, length}
use Rattle.lic_reverse.proofs.EndingLemmas.{AreLettersFrom}
use Rattle.lic_reverse.proofs.ways.endings.last_letters_of_sequence.Given as goal

abbrev pub invariant-loop-number : goal.invariant-loop-number
invariant-loop-number l = record {
  from : length l.subs - 8 ≤ l.number;
  letters : AreLettersFrom l.subs l.number l.hash;
}
