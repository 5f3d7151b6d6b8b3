use Rattle.std.proofs.Common.{◌≡◌, ◌≤◌, drop}
use Rattle.lic_trim.specs.Sources.{chars_of}
use Rattle.lic_trim.proofs.ItemLemmas.{numbers_after}
use Rattle.lic_trim.proofs.item.are_numbers.Given as goal

abbrev pub invariant-loop-s : goal.invariant-loop-s
invariant-loop-s l = record {
  few : l.digits ≤ l.s-index;
  noted : numbers_after l.digits (chars_of (drop l.s-index l.text)) ≡ numbers_after 0 (chars_of l.text);
}
