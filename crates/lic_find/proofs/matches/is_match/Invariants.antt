use Rattle.std.proofs.Common.{◌≡◌, ◌∷◌, []}
use Rattle.lic_auto.specs.Runs.{RunHasTaken, numbers_of, set_of}
use Rattle.lic_find.specs.Scans.{letters_up_to}
use Rattle.lic_find.proofs.matches.is_match.Given as goal

abbrev pub invariant-loop-number : goal.invariant-loop-number
invariant-loop-number l = record {
  templates : set_of l.run ≡ l.set;
  numbers : numbers_of l.run ≡ l.triple.template ∷ [];
  taken : RunHasTaken l.run (letters_up_to l.text.tokens l.triple.first l.number);
}
