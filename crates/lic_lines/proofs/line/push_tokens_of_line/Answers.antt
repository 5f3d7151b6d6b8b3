use Rattle.std.proofs.Common.{◌≡◌, ◌∙◌, ◌++◌, ap, ap₂, take, drop, length, arith}
use Rattle.lic_lines.specs.Tokens.{single_signs, tokens_in}
use Rattle.lic_lines.proofs.TokenLemmas.{tokens_past, take_old, drop_old}
use Rattle.lic_lines.proofs.line.push_tokens_of_line.Goals as goal

pub join_single_signs-requires : goal.join_single_signs-requires
join_single_signs-requires c =
    omega (arith, c.len-from.ensures, c.args.out.now.ok.0, tokens_past c.args.out.now.items c.push_text.new.out.items _ c.in_ok-push_text.ensures)

pub returns : goal.returns
returns c =
    let old = c.args.out.now.items in
    let pushed = c.push_text.new.out.items in
    let from : c.len-from.result ≡ length old = c.len-from.ensures ∙ c.args.out.now.ok.0 in
    let stated = c.in_ok-push_text.ensures in
    c.join_single_signs.ensures
    ∙ ap (λ n. tokens_in (take n pushed) ++ single_signs (tokens_in (drop n pushed))) from
    ∙ ap₂ (λ a b. a ++ single_signs b) (take_old old pushed _ stated) (drop_old old pushed _ stated)
    ∙ ap (λ l. tokens_in old ++ l) c.in_ok-left.ensures
