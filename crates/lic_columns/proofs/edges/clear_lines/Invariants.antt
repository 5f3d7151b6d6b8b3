use Rattle.std.proofs.Common.{◌-◌, length}
use Rattle.lic_kind.specs.LineRules.{rules_of}
use Rattle.lic_columns.specs.Edges.{AreCleared}
use Rattle.lic_columns.proofs.edges.clear_lines.Given as goal

abbrev pub invariant-loop-at : goal.invariant-loop-at
invariant-loop-at l = AreCleared (rules_of l.rules) l.text l.at l.columns

abbrev pub decreases-loop-at : goal.decreases-loop-at
decreases-loop-at l = length l.text - l.at
