use Rattle.std.proofs.Common.{◌++◌, string_bytes, ap, ◌∙◌, lit<}
use Rattle.lic_phrases.proofs.SpellingLemmas.{key_step}
use Rattle.lic_phrases.proofs.words.phrase.key.Goals as goal

pub loop-text-preserved : goal.loop-text-preserved
loop-text-preserved c =
    key_step c.args.texts.now c.loop-text.text-index c.text-item.result (string_bytes c.loop-text.key)
    (string_bytes c.push_str.new.self) (string_bytes c.push.new.self)
    c.loop-text-test.true c.text-item.is c.loop-text.invariant
    (c.in_ok-push_str.ensures.bytes ∙ ap (λ l. string_bytes c.loop-text.key ++ l) c.as_str.ensures.value)
    (c.in_ok-push.ensures.bytes ∙ ap (λ l. string_bytes c.push_str.new.self ++ l) (c.in_ok-push.ensures.ascii (lit< tt)))
