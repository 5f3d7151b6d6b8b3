use Rattle.std.proofs.Common.{◌≡◌, ◌-◌, ◌≤◌, ◌++◌, length, drop}
use Rattle.lic_kind.specs.LineRules.{rules_of}
use Rattle.lic_lines.specs.Tokens.{tokens_after, part_tokens, tokens_in}
use Rattle.lic_lines.proofs.text.push_text.Given as goal

-- the tokens so far, and those of what is left
abbrev pub invariant-loop-at : goal.invariant-loop-at
invariant-loop-at l = record {
  within : l.at ≤ length l.text;
  stated : tokens_in l.out.items ++ tokens_after (rules_of l.rules) l.after_blank (drop l.at l.text)
      ≡ tokens_in l.fn.out.items ++ part_tokens (rules_of l.rules) l.text;
}

abbrev pub decreases-loop-at : goal.decreases-loop-at
decreases-loop-at l = length l.text - l.at
