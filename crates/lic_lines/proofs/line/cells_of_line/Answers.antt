use Rattle.std.proofs.Common.{◌∙◌, ◌++◌, ap, ap₂, map}
use Rattle.std.proofs.lemmas.Result.{IfOk-weaker}
use Rattle.lic_kind.specs.LineRules.{rules_of}
use Rattle.lic_lines.specs.Cells.{cell_of, blank_for, cells_of_cut}
use Rattle.lic_lines.specs.Streaks.{streaks_joined}
use Rattle.lic_lines.proofs.TokenLemmas.{left_of-range}
use Rattle.lic_lines.proofs.line.cells_of_line.Goals as goal

pub returns : goal.returns
returns c =
    let rules = rules_of c.args.rules.now in
    let line = c.args.line.now in
    let cut = c.in_ok-cut.cut in
    let lead = c.in_ok-push_blank_for.ensures ∙ ap (λ l. l ++ blank_for cut.lead) c.in_ok-cells.ensures.items in
    let item = c.in_ok-push_blank_for-2.ensures ∙ ap (λ l. l ++ blank_for cut.item) lead in
    let left = c.in_ok-push_cells.ensures ∙ ap₂ (λ l t. l ++ map cell_of t) item (left_of-range cut line) in
    let cells = c.in_ok-push_blank_for-3.ensures ∙ ap (λ l. l ++ blank_for cut.tail) left ∙ ap (λ k. cells_of_cut k line) c.in_ok-cut.ensures.cut in
    IfOk-weaker c.from_slice.result _ _ (λ v items. items ∙ c.in_ok-joined.ensures ∙ ap (streaks_joined rules) (c.deref.ensures.value ∙ cells)) c.from_slice.ensures.items
