use Rattle.std.proofs.Common.{◌≡◌, ◌+◌, false, codes, bytes_eq, get_or, drop, ap, sym, ◌∙◌}
use Rattle.lic_lines.specs.Tokens.{is_text}
use Rattle.lic_rewriting.specs.Sections.{begins_sign}
use Rattle.lic_rewriting.proofs.SectionTokens.{next_token, no_parenthesis, no_token}
use Rattle.lic_rewriting.proofs.section.Section.is_sign.Goals as goal

pub ends_sign-requires-clause-parenthesis : goal.ends_sign-requires-clause-parenthesis
ends_sign-requires-clause-parenthesis c = λ d.
    ap (bytes_eq (codes "(")) (sym (c.requires.text d)) ∙ sym (c.eq.ensures ∙ ap (λ l. bytes_eq l c.args.text.now) c.as_bytes.ensures.value) ∙ c.if-eq.true

pub returns-else-eq : goal.returns-else-eq
returns-else-eq c =
    let tokens = c.args.self.now in
    let i = c.args.i in
    let token = get_or tokens i no_token in
    let none : is_text (codes "(") token ≡ false =
    ap (bytes_eq (codes "(")) (sym (c.requires.text no_token)) ∙ sym (c.eq.ensures ∙ ap (λ l. bytes_eq l c.args.text.now) c.as_bytes.ensures.value) ∙ c.if-eq.false in
    c.if-eq.false ∙ sym (ap begins_sign (next_token tokens i no_token c.requires.within) ∙ no_parenthesis token (drop (i + 1) tokens) none)
