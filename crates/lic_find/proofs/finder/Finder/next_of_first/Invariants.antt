use Rattle.std.proofs.Common.{◌≡◌, ◌+◌, ◌-◌, ◌*◌, ◌≤◌, length, drop}
use Rattle.lic_auto.specs.Runs.{steps_of}
use Rattle.lic_find.specs.Bounds.{letters_of}
use Rattle.lic_find.specs.Remaining.{IsInSameScan, remaining_matches}
use Rattle.lic_find.proofs.finder.Finder.next_of_first.Given as goal

abbrev pub invariant-loop-triple : goal.invariant-loop-triple
invariant-loop-triple l = record {
  rest : remaining_matches l.self ≡ remaining_matches l.initial.self;
  given : l.self.given ≡ l.initial.self.given;
  same : IsInSameScan l.initial.self l.self;
  never_fall : steps_of l.initial.self.run ≤ steps_of l.self.run;
  most : steps_of l.self.run + 2 * letters_of (drop l.self.end l.self.text.now.tokens)
      ≤ steps_of l.initial.self.run + 2 * letters_of (drop l.initial.self.end l.initial.self.text.now.tokens);
}

abbrev pub decreases-loop-triple : goal.decreases-loop-triple
decreases-loop-triple l = length l.self.text.now.tokens - l.self.end
