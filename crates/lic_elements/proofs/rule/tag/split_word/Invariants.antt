use Rattle.std.proofs.Common.{length}
use Rattle.lic_elements.specs.Pieces.{EndsWith, characters}
use Rattle.lic_elements.proofs.RuleLemmas.{HasPassedWord}
use Rattle.lic_elements.proofs.rule.tag.split_word.Given as goal

-- letters and digits alone were passed
abbrev pub invariant-loop-first : goal.invariant-loop-first
invariant-loop-first l = record {
  ends : EndsWith l.all l.rest;
  passed : HasPassedWord (characters l.all) (characters l.rest);
}

abbrev pub decreases-loop-first : goal.decreases-loop-first
decreases-loop-first l = length (characters l.rest)
