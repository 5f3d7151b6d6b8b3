use Rattle.std.proofs.Common.{◌≡◌, ◌-◌, ◌≤◌, ◌++◌, length, drop}
use Rattle.lic_kind.specs.LineRules.{rules_of}
use Rattle.lic_lines.specs.Tokens.{tokens_after, tokens_in}
use Rattle.lic_lines.proofs.text.push_sequences.Given as goal

-- the tokens so far, and those of what is left
abbrev pub invariant-loop-length : goal.invariant-loop-length
invariant-loop-length l = record {
  within : l.length ≤ length l.text;
  stated : tokens_in l.out.items ++ tokens_after (rules_of l.rules) l.blank_after (drop l.length l.text)
      ≡ tokens_in l.fn.out.items ++ tokens_after (rules_of l.rules) l.after_blank l.text;
}

abbrev pub decreases-loop-length : goal.decreases-loop-length
decreases-loop-length l = length l.text - l.length
