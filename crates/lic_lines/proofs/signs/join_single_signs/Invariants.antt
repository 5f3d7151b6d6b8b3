use Rattle.std.proofs.Common.{◌≡◌, ◌-◌, ◌≤◌, ◌++◌, length, take, drop}
use Rattle.lic_lines.specs.Tokens.{single_signs, tokens_in}
use Rattle.lic_lines.proofs.signs.join_single_signs.Given as goal

-- the tokens that are kept so far, and those of what is left
abbrev pub invariant-loop-at : goal.invariant-loop-at
invariant-loop-at l = record {
  past : l.kept ≤ l.at;
  within : l.at ≤ length l.tokens.items;
  stated : tokens_in (take l.kept l.tokens.items) ++ single_signs (tokens_in (drop l.at l.tokens.items))
      ≡ tokens_in (take l.fn.from l.fn.tokens.items) ++ single_signs (tokens_in (drop l.fn.from l.fn.tokens.items));
}

abbrev pub decreases-loop-at : goal.decreases-loop-at
decreases-loop-at l = length l.tokens.items - l.at
