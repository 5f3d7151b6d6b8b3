use Rattle.std.proofs.Common.{◌∙◌, ◌++◌, ◌+◌, sym, ap, drop, get_or, append_assoc}
use Rattle.std.specs.Prelude.{string_bytes, encode_utf8_all}
use Rattle.lic_lines.specs.Cells.{Blank}
use Rattle.lic_lines.specs.Tokens.{cell_letters, letters_of}
use Rattle.lic_lines.proofs.TokenLemmas.{letters_more}
use Rattle.lic_lines.proofs.tokens.spell_cells.Goals as goal

pub loop-cell-preserved : goal.loop-cell-preserved
loop-cell-preserved c =
    let i = c.loop-cell.cell-index in
    let text = string_bytes c.loop-cell.text in
    let letters = encode_utf8_all (cell_letters (get_or c.args.cells.now i Blank)) in
    let rest = encode_utf8_all (letters_of (drop (i + 1) c.args.cells.now)) in
    ap (λ l. l ++ rest) c.in_ok-push_letters.ensures ∙ append_assoc text letters rest
    ∙ ap (λ l. text ++ l) (sym (letters_more c.args.cells.now i c.loop-cell-test.true)) ∙ c.loop-cell.invariant
