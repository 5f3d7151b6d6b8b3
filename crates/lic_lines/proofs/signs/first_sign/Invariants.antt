use Rattle.std.proofs.Common.{◌≡◌, ◌-◌, ◌≤◌, ◌++◌, length, take, drop}
use Rattle.lic_lines.specs.Tokens.{single_signs, tokens_in}
use Rattle.lic_lines.proofs.signs.first_sign.Given as goal

-- no sign begins so far
abbrev pub invariant-loop-at : goal.invariant-loop-at
invariant-loop-at l = record {
  after : l.fn.from ≤ l.at;
  within : l.at ≤ length l.tokens;
  plain : tokens_in (take l.at l.tokens) ++ single_signs (tokens_in (drop l.at l.tokens))
      ≡ tokens_in (take l.fn.from l.tokens) ++ single_signs (tokens_in (drop l.fn.from l.tokens));
}

abbrev pub decreases-loop-at : goal.decreases-loop-at
decreases-loop-at l = length l.tokens - l.at
