use Rattle.std.proofs.Common.{◌∙◌, sym, ap}
use Rattle.lic_kind.specs.LineRules.{rules_of}
use Rattle.lic_lines.specs.Cells.{cells_of_cut}
use Rattle.lic_lines.specs.Tokens.{single_signs, part_tokens, tokens_of_cells}
use Rattle.lic_lines.proofs.TokenLemmas.{tokens_of_cut, left_of-range}
use Rattle.lic_lines.proofs.line.left_of_line.Goals as goal

pub returns : goal.returns
returns c =
    let rules = rules_of c.args.rules.now in
    let line = c.args.line.now in
    let cut = c.in_ok-cut.cut in
    ap (λ l. single_signs (part_tokens rules l)) (left_of-range cut line) ∙ sym (tokens_of_cut rules cut line)
    ∙ ap (λ k. tokens_of_cells rules (cells_of_cut k line)) c.in_ok-cut.ensures.cut
