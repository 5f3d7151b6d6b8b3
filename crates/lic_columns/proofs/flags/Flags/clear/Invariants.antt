use Rattle.std.proofs.Common.{◌≡◌, ◌-◌, ◌≤◌}
use Rattle.lic_columns.proofs.FlagLemmas.{IsCleared}
use Rattle.lic_columns.proofs.flags.Flags.clear.Given as goal

abbrev pub invariant-loop-at : goal.invariant-loop-at
invariant-loop-at l = (l.self-inside.len ≡ l.initial.self-inside.len) × (l.from ≤ l.at) × (l.at ≤ l.to) × IsCleared l.from l.at l.initial.self-inside.columns.items l.self-inside.columns.items

abbrev pub decreases-loop-at : goal.decreases-loop-at
decreases-loop-at l = l.to - l.at
