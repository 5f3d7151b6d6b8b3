use Rattle.std.proofs.Common.{◌≡◌, ◌-◌, ◌++◌, List, ℕ, None, length}
use Rattle.std.specs.Io.KnownBytes.{Consumes}
use Rattle.lic_norm.specs.Refusal.{refusal_of}
use Rattle.lic_norm.proofs.feeder.Feeder.read_to_end.Given as goal

-- what was read so far was fed, and is accepted
abbrev pub invariant-loop : goal.invariant-loop
invariant-loop g l = record {
  read : (bytes : List ℕ) × Consumes (g.R.Source.left l.initial.input) (g.R.Source.left l.input) bytes
      × (l.self.bytes ≡ l.initial.self.bytes ++ bytes);
  sound : g.R.Source.failed l.input ≡ g.R.Source.failed l.initial.input;
  accepted : refusal_of l.self.bytes ≡ None;
  unrefused : l.self.refused ≡ None;
  words : l.self.words ≡ l.initial.self.words;
  rules : l.self.rules ≡ l.initial.self.rules;
}

abbrev pub decreases-loop : goal.decreases-loop
decreases-loop g l = 67108865 - length l.self.bytes
