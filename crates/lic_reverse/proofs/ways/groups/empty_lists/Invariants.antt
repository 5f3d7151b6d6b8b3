-- The lists so far, none with an entry.
use Rattle.std.proofs.Common.{◌≡◌, length}
use Rattle.lic_reverse.proofs.LetterGroupLemmas.{AreEmpty}
use Rattle.lic_reverse.proofs.ways.groups.empty_lists.Given as goal

abbrev pub invariant-loop : goal.invariant-loop
invariant-loop l = record {
  count : length l.lists.items ≡ l.counter;
  none : AreEmpty l.lists.items;
}
