use Rattle.std.proofs.Common.{◌≡◌, ◌+◌, ◌-◌, ◌++◌, true, length, take, drop, ap, sym, subst, ◌∙◌, arith}
use Rattle.std.proofs.lemmas.List.{drop-take}
use Rattle.lic_kind.specs.LineRules.{rules_of}
use Rattle.lic_trim.specs.Lines.{cut_of, whole_line}
use Rattle.lic_trim.specs.Sources.{chars_of}
use Rattle.lic_lines.specs.Cells.{cells_of_cut, left_of}
use Rattle.lic_lines.specs.Tokens.{line_tokens, text_tokens_after, tokens_of_cells}
use Rattle.lic_lines.proofs.TokenLemmas.{left_of-range, tokens_of_cut}
use Rattle.lic_rewriting.specs.Taking.{HasTaken}
use Rattle.lic_norm.proofs.reader.line_tokens.take_long_line.Goals as goal

pub returns-clause-taken : goal.returns-clause-taken
returns-clause-taken c = λ taken has.
    let rules = rules_of c.args.rules.now in
    let line = c.args.characters.now.items in
    let cut = c.in_ok-cut.cut in
    let n = cut.lead + cut.item in
    let m = length line - cut.tail - n in
    let cut_is : cut ≡ cut_of rules whole_line (chars_of line) = c.in_ok-cut.ensures.cut ∙ ap (λ l. cut_of rules whole_line (chars_of l)) c.deref.ensures.value in
    let count : c.len.result - cut.tail ≡ n + m = omega (arith, c.len.ensures, c.args.characters.now.ok, c.in_ok-cut.ensures.within, ap length c.deref.ensures.value) in
    let left : drop n (take (c.len.result - cut.tail) line) ≡ left_of cut line =
    ap (λ k. drop n (take k line)) count ∙ drop-take n m line ∙ left_of-range cut line in
    let tokens : text_tokens_after rules true (drop n (take (c.len.result - cut.tail) line)) ≡ line_tokens rules whole_line line =
    ap (text_tokens_after rules true) left ∙ sym (tokens_of_cut rules cut line) ∙ ap (λ k. tokens_of_cells rules (cells_of_cut k line)) cut_is in
    subst (λ ts. HasTaken c.take_long.new.self (taken ++ ts)) (ap (λ l. text_tokens_after rules true (drop n l)) c.truncate.ensures.items ∙ tokens)
    (c.in_ok-take_long.ensures.taken taken has)
