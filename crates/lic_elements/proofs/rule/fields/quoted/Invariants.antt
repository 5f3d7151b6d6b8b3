use Rattle.std.proofs.Common.{length}
use Rattle.lic_elements.specs.Pieces.{EndsWith, characters}
use Rattle.lic_elements.specs.Rules.{quoted_at}
use Rattle.lic_elements.proofs.RuleLemmas.{HasPassed, read}
use Rattle.lic_elements.proofs.rule.fields.quoted.Given as goal

-- what was passed and what is read of the rest are all
abbrev pub invariant-loop-after : goal.invariant-loop-after
invariant-loop-after l =
    record {
      ends : EndsWith l.all l.rest;
      passed : HasPassed (characters l.all) (characters l.rest) (read (characters l.rest) (quoted_at l.rule (characters l.rest)))
          (read (characters l.all) (quoted_at l.rule (characters l.all)));
    }

abbrev pub decreases-loop-after : goal.decreases-loop-after
decreases-loop-after l = length (characters l.rest)
