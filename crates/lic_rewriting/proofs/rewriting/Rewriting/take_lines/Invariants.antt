use Rattle.std.proofs.Common.{◌≡◌, ◌-◌, ◌≤◌, ◌++◌, [], List, drop, length}
use Rattle.lic_lines.specs.Tokens.{Token, single_signs}
use Rattle.lic_rewriting.specs.Sections.{AreTokenOffsets, tokens_at}
use Rattle.lic_rewriting.specs.Taking.{HasTaken}
use Rattle.lic_tokens.specs.Tokens.{HaveTexts}
use Rattle.lic_rewriting.proofs.rewriting.Rewriting.take_lines.Given as goal

-- the tokens so far have been taken, and of those that are left the offsets are there
abbrev pub invariant-loop-from : goal.invariant-loop-from
invariant-loop-from l = record {
  within : l.from ≤ length l.lines.starts;
  offsets : AreTokenOffsets l.at l.lines;
  texts : HaveTexts (tokens_at l.at l.lines);
  taken : (taken : List Token) → HasTaken l.fn.self taken → (front : List Token) × HasTaken l.self (taken ++ front)
      × (front ++ single_signs (drop l.from (tokens_at l.at l.lines)) ≡ single_signs (tokens_at l.at l.fn.lines));
  phrases : l.self.phrases.now ≡ l.fn.self.phrases.now;
  emptied : l.self.settled.items ≡ [];
}

abbrev pub decreases-loop-from : goal.decreases-loop-from
decreases-loop-from l = length l.lines.starts - l.from
