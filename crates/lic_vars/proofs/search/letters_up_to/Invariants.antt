-- The letters so far are counted.
use Rattle.std.proofs.Common.{◌≡◌, ◌≤◌, take}
use Rattle.std.specs.Prelude.{count_by}
use Rattle.lic_vars.specs.Shortest.{begins_letter}
use Rattle.lic_vars.proofs.search.letters_up_to.Given as goal

abbrev pub invariant-loop-byte : goal.invariant-loop-byte
invariant-loop-byte l = record {
  counts : l.count ≡ count_by begins_letter (take l.byte-index l.byte-items);
  small : l.count ≤ l.byte-index;
}
