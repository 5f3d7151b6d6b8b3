use Rattle.std.proofs.Common.{length, false}
use Rattle.lic_elements.specs.Pieces.{EndsWith, characters}
use Rattle.lic_elements.specs.Rules.{plain_at}
use Rattle.lic_elements.proofs.RuleLemmas.{HasPassed, read}
use Rattle.lic_elements.proofs.rule.fields.plain.Given as goal

-- what was passed and what is read of the rest are all
abbrev pub invariant-loop-first : goal.invariant-loop-first
invariant-loop-first l =
    record {
      ends : EndsWith l.all l.rest;
      passed : HasPassed (characters l.all) (characters l.rest) (read (characters l.rest) (plain_at l.rule l.escaped (characters l.rest)))
          (read (characters l.all) (plain_at l.rule false (characters l.all)));
    }

abbrev pub decreases-loop-first : goal.decreases-loop-first
decreases-loop-first l = length (characters l.rest)
