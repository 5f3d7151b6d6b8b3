use Rattle.lic_marks.proofs.ClearRows.{cleared}
use Rattle.lic_marks.proofs.rows.clear.Goals as goal

pub returns-clause-clear : goal.returns-clause-clear
returns-clause-clear c = cleared c.args.row.now c.clear.new.self c.len-end.result c.len-end.ensures c.clear.ensures.len c.clear.ensures.inside
