use Rattle.std.proofs.Common.{◌∷◌, sym, ap, subst, ◌∙◌}
use Rattle.std.specs.Str.{chars, IsUtf8}
use Rattle.lic_kind.specs.RuleFiles.{line_of, line_of_words, rule_line, single}
use Rattle.lic_kind.proofs.LineWords.{next_word, no_word}
use Rattle.lic_kind.proofs.WordLemmas.{comment_line, other_line}
use Rattle.lic_kind.proofs.rules.rule_line.read_line.Goals as goal

pub returns-in_default : goal.returns-in_default
returns-in_default c =
    let whole = c.split_whitespace-words.ensures.rest in
    let none = no_word _ (subst IsUtf8 (sym whole) c.utf8.line) (c.in_default.ensures).steps.1 in
    sym (ap line_of (sym whole) ∙ ap line_of_words none)

pub returns-then-begins_in_hash : goal.returns-then-begins_in_hash
returns-then-begins_in_hash c =
    let whole = c.split_whitespace-words.ensures.rest in
    let word = c.in-Some.word.now in
    let first = next_word _ word _ (subst IsUtf8 (sym whole) c.utf8.line) (c.in-Some.ensures).steps in
    sym (ap line_of (sym whole) ∙ comment_line _ (chars word) _ first.0 (sym c.begins_in_hash.ensures ∙ c.if-begins_in_hash.true))

pub returns-in_default-next : goal.returns-in_default-next
returns-in_default-next c =
    let whole = c.split_whitespace-words.ensures.rest in
    let word = c.in-Some.word.now in
    let first = next_word _ word _ (subst IsUtf8 (sym whole) c.utf8.line) (c.in-Some.ensures).steps in
    let none = no_word _ first.1 (c.in_default-next.ensures).steps.1 in
    c.rule_line.ensures
    ∙ sym (ap line_of (sym whole) ∙ other_line _ (chars word) _ first.0 (sym c.begins_in_hash.ensures ∙ c.if-begins_in_hash.false)
    ∙ ap (λ ws. rule_line (chars word) (single ws)) none)

pub returns-in-None : goal.returns-in-None
returns-in-None c =
    let whole = c.split_whitespace-words.ensures.rest in
    let word = c.in-Some.word.now in
    let following = c.in-Some-next.following.now in
    let first = next_word _ word _ (subst IsUtf8 (sym whole) c.utf8.line) (c.in-Some.ensures).steps in
    let second = next_word _ following _ first.1 (c.in-Some-next.ensures).steps in
    let none = no_word _ second.1 (c.in-None.ensures).steps.1 in
    c.rule_line-in-None.ensures
    ∙ sym (ap line_of (sym whole) ∙ other_line _ (chars word) _ first.0 (sym c.begins_in_hash.ensures ∙ c.if-begins_in_hash.false)
    ∙ ap (λ ws. rule_line (chars word) (single ws)) (second.0 ∙ ap (λ ws. chars following ∷ ws) none))

pub returns-in-Some-next-2 : goal.returns-in-Some-next-2
returns-in-Some-next-2 c =
    let whole = c.split_whitespace-words.ensures.rest in
    let word = c.in-Some.word.now in
    let following = c.in-Some-next.following.now in
    let first = next_word _ word _ (subst IsUtf8 (sym whole) c.utf8.line) (c.in-Some.ensures).steps in
    let second = next_word _ following _ first.1 (c.in-Some-next.ensures).steps in
    let third = next_word _ c.in-Some-next-2.field-0.now _ second.1 (c.in-Some-next-2.ensures).steps in
    c.rule_line-in-Some-next-2.ensures
    ∙ sym (ap line_of (sym whole) ∙ other_line _ (chars word) _ first.0 (sym c.begins_in_hash.ensures ∙ c.if-begins_in_hash.false)
    ∙ ap (λ ws. rule_line (chars word) (single ws)) (second.0 ∙ ap (λ ws. chars following ∷ ws) third.0))
