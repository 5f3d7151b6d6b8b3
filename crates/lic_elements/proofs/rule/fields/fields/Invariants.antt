use Rattle.std.proofs.Common.{◌≡◌, length}
use Rattle.lic_elements.specs.Pieces.{characters}
use Rattle.lic_elements.specs.Rules.{no_values, fields_at}
use Rattle.lic_elements.specs.Views.{values_of}
use Rattle.lic_elements.proofs.RuleLemmas.{read}
use Rattle.lic_elements.proofs.rule.fields.fields.Given as goal

-- what is read of the rest is what is read of all
abbrev pub invariant-loop-after : goal.invariant-loop-after
invariant-loop-after l =
    read (characters l.rest) (fields_at l.rule l.tag (values_of l.values) 0 (characters l.rest))
    ≡ read (characters l.all) (fields_at l.rule l.tag no_values 0 (characters l.all))

abbrev pub decreases-loop-after : goal.decreases-loop-after
decreases-loop-after l = length (characters l.rest)
