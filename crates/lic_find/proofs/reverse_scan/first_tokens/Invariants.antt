use Rattle.std.proofs.Common.{◌≡◌, ◌-◌, ◌*◌, ◌^◌, ◌<◌, ◌≤◌, length, drop}
use Rattle.lic_auto.specs.Backs.{BackHasTaken, set_of_back, numbers_of_back, steps_of_back}
use Rattle.lic_find.specs.Bounds.{letters_of}
use Rattle.lic_find.specs.Firsts.{AreFirstsFrom}
use Rattle.lic_set.specs.Matches.{all_letters}
use Rattle.lic_find.specs.Starts.{HasAtMost, starts_in}
use Rattle.lic_find.proofs.reverse_scan.first_tokens.Given as goal

abbrev pub invariant-loop-first : goal.invariant-loop-first
invariant-loop-first l = record {
  low : l.fn.from ≤ l.first;
  set : set_of_back l.back ≡ l.set;
  numbers : numbers_of_back l.back ≡ l.fn.numbers.items;
  taken : BackHasTaken l.back (all_letters (drop l.first l.text.tokens));
  firsts : AreFirstsFrom l.set l.text.tokens l.fn.numbers.items l.first (starts_in l.starts);
  memory : HasAtMost l.starts (length l.text.tokens - l.first);
  most : steps_of_back l.back ≤ 2 * letters_of (drop l.first l.text.tokens);
  least : steps_of_back l.back < 2 ^ 64 - 1 → letters_of (drop l.first l.text.tokens) ≤ steps_of_back l.back;
}
