use Rattle.std.proofs.Common.{◌≡◌, ◌∙◌, sym, ap, None, Some, length, drop, List}
use Rattle.lic_ere.specs.Located.{Located}
use Rattle.lic_elements.specs.Pieces.{characters}
use Rattle.lic_elements.specs.Rules.{word_at}
use Rattle.lic_elements.specs.Texts.{text_of}
use Rattle.lic_elements.proofs.RuleLemmas.{no_tag, tag_of_word}
use Rattle.lic_elements.proofs.rule.tag.read_tag.Goals as goal

pub returns-then-not-begins_with : goal.returns-then-not-begins_with
returns-then-not-begins_with c = λ offset. sym (no_tag offset (characters c.args.rest) (sym c.begins_with.ensures ∙ c.if-not-begins_with.true))

pub returns-in_err-tag : goal.returns-in_err-tag
returns-in_err-tag c = λ offset.
    let rest = characters c.args.rest in
    let same : characters c.without_first.result ≡ drop 1 rest = c.without_first.ensures in
    let word : text_of (word_at (drop 1 rest)) ≡ c.as_str.result.now =
    ap (λ (l : List Located). text_of (word_at l)) (sym same) ∙ ap text_of (sym c.split_word.ensures.word) ∙ sym c.as_str.ensures in
    rw c.from_residual.ensures (sym (tag_of_word offset rest (characters c.split_word.result.1) _ (sym c.begins_with.ensures ∙ c.if-not-begins_with.false) word
    (c.split_word.ensures.following ∙ ap (λ (l : List Located). drop (length (word_at l)) l) same) None (sym c.in_err-tag.ensures)))

pub returns : goal.returns
returns c = λ offset.
    let rest = characters c.args.rest in
    let same : characters c.without_first.result ≡ drop 1 rest = c.without_first.ensures in
    let word : text_of (word_at (drop 1 rest)) ≡ c.as_str.result.now =
    ap (λ (l : List Located). text_of (word_at l)) (sym same) ∙ ap text_of (sym c.split_word.ensures.word) ∙ sym c.as_str.ensures in
    sym (tag_of_word offset rest (characters c.split_word.result.1) _ (sym c.begins_with.ensures ∙ c.if-not-begins_with.false) word
    (c.split_word.ensures.following ∙ ap (λ (l : List Located). drop (length (word_at l)) l) same) (Some c.in_ok-tag.tag) (sym c.in_ok-tag.ensures))
