use Rattle.std.proofs.Common.{◌≡◌, ℕ, length, take, sym, ap, ap₂, subst, ◌∙◌}
use Rattle.lic_kind.specs.LineRules.{rules_of}
use Rattle.lic_columns.specs.Cells.{starts_of, ends_of}
use Rattle.lic_columns.specs.Known.{Known, IsText, known_of}
use Rattle.lic_columns.specs.Marks.{HaveLetters}
use Rattle.lic_columns.specs.Tokens.{text_spans}
use Rattle.lic_columns.proofs.FrontLines.{is_text, have_letters, have_tokens}
use Rattle.lic_columns.proofs.lines.Lines.read_front.Goals as goal

pub list_tokens-requires-clause-text : goal.list_tokens-requires-clause-text
list_tokens-requires-clause-text c =
    let lines = take c.in_ok-end.end c.args.bytes.now in
    let spelled = c.spell_lines.new.spelled.items in
    let known : c.read.new.self ≡ known_of spelled = c.in_ok-read.ensures ∙ ap known_of c.deref.ensures.value in
    subst (IsText (length lines)) (sym known) (is_text lines spelled c.in_ok-end.ensures.spelled)

pub list_tokens-requires-clause-letters : goal.list_tokens-requires-clause-letters
list_tokens-requires-clause-letters c =
    let lines = take c.in_ok-end.end c.args.bytes.now in
    let spelled = c.spell_lines.new.spelled.items in
    let known : c.read.new.self ≡ known_of spelled = c.in_ok-read.ensures ∙ ap known_of c.deref.ensures.value in
    subst (λ (k : Known). HaveLetters lines k.letters k.mark) (sym known) (have_letters lines spelled c.in_ok-end.ensures.spelled)

pub returns-clause-tokens : goal.returns-clause-tokens
returns-clause-tokens c = λ some.
    let rules = rules_of c.args.rules.now in
    let at : ℕ = c.args.at in
    let lines = take c.in_ok-end.end c.args.bytes.now in
    let spelled = c.spell_lines.new.spelled.items in
    let known : c.read.new.self ≡ known_of spelled = c.in_ok-read.ensures ∙ ap known_of c.deref.ensures.value in
    have_tokens lines spelled c.in_ok-end.ensures.spelled rules at c.in_ok-end.ensures.plain
    c.read.new.self.letters c.list_tokens.new.starts c.list_tokens.new.ends
    (ap (λ (k : Known). k.letters) known)
    (c.in_ok-list_tokens.ensures.starts ∙ ap₂ (λ s k. starts_of (text_spans s at lines k)) c.separators.ensures known)
    (c.in_ok-list_tokens.ensures.ends ∙ ap₂ (λ s k. ends_of (text_spans s at lines k)) c.separators.ensures known)
