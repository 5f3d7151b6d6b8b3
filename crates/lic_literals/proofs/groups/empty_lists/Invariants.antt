-- As many lists as rounds so far.
use Rattle.std.proofs.Common.{◌≡◌, length}
use Rattle.lic_literals.proofs.groups.empty_lists.Given as goal

abbrev pub invariant-loop : goal.invariant-loop
invariant-loop l = length l.lists.items ≡ l.counter
