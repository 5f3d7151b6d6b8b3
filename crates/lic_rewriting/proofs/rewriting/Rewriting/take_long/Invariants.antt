use Rattle.std.proofs.Common.{◌≡◌, ◌-◌, ◌≤◌, ◌++◌, [], List, true, length, drop}
use Rattle.lic_kind.specs.LineRules.{rules_of}
use Rattle.lic_lines.specs.Tokens.{Token, text_tokens_after}
use Rattle.lic_rewriting.specs.Taking.{HasTaken}
use Rattle.lic_rewriting.proofs.rewriting.Rewriting.take_long.Given as goal

-- the tokens so far have been taken, and with those of what is left they are all
abbrev pub invariant-loop-offset : goal.invariant-loop-offset
invariant-loop-offset l = record {
  within : l.offset ≤ length l.characters.items;
  taken : (taken : List Token) → HasTaken l.fn.self taken → (front : List Token) × HasTaken l.self (taken ++ front)
      × (front ++ text_tokens_after (rules_of l.rules) l.after_blank (drop l.offset l.characters.items) ≡ text_tokens_after (rules_of l.rules) true (drop l.from l.fn.characters.items));
  phrases : l.self.phrases.now ≡ l.fn.self.phrases.now;
  emptied : l.self.settled.items ≡ [];
}

abbrev pub decreases-loop-offset : goal.decreases-loop-offset
decreases-loop-offset l = length l.characters.items - l.offset
