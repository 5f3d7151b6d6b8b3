use Rattle.std.proofs.Common.{◌≡◌, ◌-◌, ◌+◌}
use Rattle.lic_norm.specs.Reading.{HasRead}
use Rattle.lic_norm.proofs.reader.Reader.take_lines.Given as goal

-- lines that have ended were taken, of the same source
abbrev pub invariant-loop-self : goal.invariant-loop-self
invariant-loop-self l = record {
  read : HasRead l.self;
  source : l.self.source.items ≡ l.fn.self.source.items;
  words : l.self.rewriting.phrases.now ≡ l.fn.self.rewriting.phrases.now;
  rules : l.self.rules.now ≡ l.fn.self.rules.now;
}

abbrev pub decreases-loop-self : goal.decreases-loop-self
decreases-loop-self l = l.last + 1 - l.self.line_start
