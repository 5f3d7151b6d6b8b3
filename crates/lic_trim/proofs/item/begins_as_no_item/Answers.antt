use Rattle.std.proofs.Common.{◌∙◌, sym}
use Rattle.std.proofs.lemmas.Bool.{not-true}
use Rattle.lic_trim.proofs.ItemFronts.{no_item_line}
use Rattle.lic_trim.proofs.item.begins_as_no_item.Goals as goal

pub returns-then-not-is_empty : goal.returns-then-not-is_empty
returns-then-not-is_empty c = λ off. no_item_line c.args.line.now (sym c.may_begin_item.ensures ∙ not-true c.may_begin_item.result off)
