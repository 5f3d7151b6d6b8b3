use Rattle.std.proofs.Common.{◌-◌, get_or, string_bytes, sym, ap, ◌∙◌, arith}
use Rattle.lic_phrases.specs.Spelling.{begins_in_word, ends_in_word}
use Rattle.lic_phrases.proofs.SpellingLemmas.{parted_neighbours, both-true, both-false}
use Rattle.lic_phrases.proofs.WordClasses.{get_any}
use Rattle.lic_phrases.proofs.words.phrase.is_parted_at.Goals as goal

pub returns-then-ends_in_word : goal.returns-then-ends_in_word
returns-then-ends_in_word c =
    let a = c.index-texts-index.result in
    let b = c.index-texts-index-then-ends_in_word.result in
    c.begins_in_word.ensures ∙ ap begins_in_word c.as_str-then-ends_in_word.ensures.value
    ∙ both-true (ends_in_word (string_bytes a)) (begins_in_word (string_bytes b))
    (ap ends_in_word (sym c.as_str.ensures.value) ∙ sym c.ends_in_word.ensures ∙ c.if-ends_in_word.true)
    ∙ sym (parted_neighbours c.args.texts.now c.args.index (c.args.index - 1) a b
    (omega arith) c.requires c.index-texts-index.is c.index-texts-index-then-ends_in_word.is)

pub returns-else-ends_in_word : goal.returns-else-ends_in_word
returns-else-ends_in_word c =
    let texts = c.args.texts.now in
    let index = c.args.index in
    let a = c.index-texts-index.result in
    let b = get_or texts index a in
    c.ends_in_word.ensures ∙ ap ends_in_word c.as_str.ensures.value
    ∙ both-false (ends_in_word (string_bytes a)) (begins_in_word (string_bytes b))
    (ap ends_in_word (sym c.as_str.ensures.value) ∙ sym c.ends_in_word.ensures ∙ c.if-ends_in_word.false)
    ∙ sym (parted_neighbours texts index (index - 1) a b (omega arith) c.requires c.index-texts-index.is (get_any texts index a b c.requires))
