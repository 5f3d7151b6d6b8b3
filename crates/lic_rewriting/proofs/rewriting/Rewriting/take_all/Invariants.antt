use Rattle.std.proofs.Common.{◌≡◌, ◌++◌, List, [], take}
use Rattle.lic_lines.specs.Tokens.{Token, tokens_in}
use Rattle.lic_rewriting.specs.Taking.{HasTaken}
use Rattle.lic_rewriting.proofs.rewriting.Rewriting.take_all.Given as goal

-- the tokens so far have been taken
abbrev pub invariant-loop-token : goal.invariant-loop-token
invariant-loop-token l = record {
  taken : (taken : List Token) → HasTaken l.fn.self taken → HasTaken l.self (taken ++ tokens_in (take l.token-index l.tokens));
  phrases : l.self.phrases.now ≡ l.fn.self.phrases.now;
  emptied : l.self.settled.items ≡ [];
}
