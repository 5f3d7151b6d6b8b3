use Rattle.lic_set.specs.Rising.{IsRising}
use Rattle.lic_search_tests.proofs.chosen.chosen_numbers.Given as goal

abbrev pub invariant-loop-number : goal.invariant-loop-number
invariant-loop-number l = IsRising l.numbers.items l.number
