use Rattle.std.proofs.Common.{◌+◌, ◌<◌, not, ◌&&◌, codes, length, get_or, length-drop, ap, sym, ◌∙◌, arith}
use Rattle.lic_lines.specs.Tokens.{is_text}
use Rattle.lic_rewriting.proofs.SectionTokens.{no_sign, no_token, sign_after_parenthesis}
use Rattle.lic_rewriting.proofs.section.Section.ends_sign.Goals as goal

pub returns-then-len-i-lt3 : goal.returns-then-len-i-lt3
returns-then-len-i-lt3 c =
    let tokens = c.args.self.now in
    sym (no_sign tokens c.args.i (omega (arith, length-drop c.args.i tokens, c.if-len-i-lt3.true, c.len.ensures)))

pub returns-then-continues : goal.returns-then-continues
returns-then-continues c =
    let tokens = c.args.self.now in
    let i = c.args.i in
    let third = get_or tokens (i + 2) no_token in
    let three : i + 2 < length tokens = omega (arith, c.if-len-i-lt3.false, c.len.ensures, c.requires.within) in
    c.continues-then-continues.ensures no_token
    ∙ ap (λ v. v && (is_text (codes ")") third && not third.after_blank)) (sym (sym (c.continues.ensures no_token) ∙ c.if-continues.true))
    ∙ sign_after_parenthesis tokens i no_token three (c.requires.parenthesis no_token)

pub returns-else-continues : goal.returns-else-continues
returns-else-continues c =
    let tokens = c.args.self.now in
    let i = c.args.i in
    let third = get_or tokens (i + 2) no_token in
    let three : i + 2 < length tokens = omega (arith, c.if-len-i-lt3.false, c.len.ensures, c.requires.within) in
    c.if-continues.false
    ∙ ap (λ v. v && (is_text (codes ")") third && not third.after_blank)) (sym (sym (c.continues.ensures no_token) ∙ c.if-continues.false))
    ∙ sign_after_parenthesis tokens i no_token three (c.requires.parenthesis no_token)
