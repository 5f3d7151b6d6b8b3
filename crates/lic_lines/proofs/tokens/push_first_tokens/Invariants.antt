use Rattle.std.proofs.Common.{◌≡◌, ◌-◌, ◌≤◌, ◌++◌, length, drop}
use Rattle.lic_trim.specs.Texts.{groups}
use Rattle.lic_lines.specs.Tokens.{both_words, tokens_from, blank_after, tokens_in}
use Rattle.lic_lines.proofs.tokens.push_first_tokens.Given as goal

-- the tokens so far, and those of what is left
abbrev pub invariant-loop-at : goal.invariant-loop-at
invariant-loop-at l = record {
  within : l.at ≤ length l.cells;
  stated : tokens_in l.out.items ++ tokens_from l.after_blank (groups both_words (drop l.at l.cells))
      ≡ tokens_in l.fn.out.items ++ tokens_from l.fn.after_blank (groups both_words l.cells);
  blank : blank_after l.after_blank (groups both_words (drop l.at l.cells)) ≡ blank_after l.fn.after_blank (groups both_words l.cells);
}

abbrev pub decreases-loop-at : goal.decreases-loop-at
decreases-loop-at l = length l.cells - l.at
