use Rattle.lic_marks.proofs.ClearRows.{clear_if_none}
use Rattle.lic_marks.proofs.rows.is_clear.Goals as goal

pub returns : goal.returns
returns c = clear_if_none c.args.row.now c.len.result c.len.ensures c.is_any_set.result c.is_any_set.ensures
