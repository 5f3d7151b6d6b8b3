-- The literals so far are in their groups.
use Rattle.std.proofs.Common.{◌≡◌, length, map}
use Rattle.lic_literals.proofs.GroupLemmas.{AreGrouped}
use Rattle.lic_literals.proofs.groups.Groups.of.Given as goal

abbrev pub invariant-loop-number : goal.invariant-loop-number
invariant-loop-number l = record {
  count : length l.groups.sharing.items ≡ length l.keys;
  grouped : AreGrouped l.keys l.groups.short.items (map (λ list. list.items) l.groups.sharing.items) l.number;
}
