use Rattle.lic_rows.proofs.Steps.{Moved}
use Rattle.lic_rows.proofs.words.shift_words.Given as goal

abbrev pub invariant-lanes : goal.invariant-lanes
invariant-lanes l = Moved l.fn.row l.row l.at

abbrev pub decreases-lanes : goal.decreases-lanes
decreases-lanes l = l.at

abbrev pub invariant-rest : goal.invariant-rest
invariant-rest l = Moved l.fn.row l.row l.at

abbrev pub decreases-rest : goal.decreases-rest
decreases-rest l = l.at
