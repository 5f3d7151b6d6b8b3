use Rattle.std.proofs.Common.{◌≡◌, ◌++◌, string_bytes, sym, ap, ◌∙◌, lit<, append-nil}
use Rattle.lic_phrases.specs.Spelling.{blank_if}
use Rattle.lic_phrases.proofs.SpellingLemmas.{spelling_step}
use Rattle.lic_phrases.proofs.words.phrase.spelling.Goals as goal
use Rattle.lic_phrases.proofs.words.phrase.spelling.Goals.{then-is_parted_at+in_ok-push, else-is_parted_at}

pub loop-index-preserved : goal.loop-index-preserved
loop-index-preserved c =
    let old = string_bytes c.loop-index.spelling in
    let parted : string_bytes c.if-is_parted_at.spelling ≡ old ++ blank_if c.is_parted_at.result =
    elim c.if-is_parted_at.branch [
      | then-is_parted_at+in_ok-push w ↦ ap string_bytes w.spelling-is ∙ w.in_ok-push.ensures.bytes
          ∙ ap (λ l. old ++ l) (w.in_ok-push.ensures.ascii (lit< tt) ∙ ap blank_if (sym w.if-is_parted_at.true))
      | else-is_parted_at w ↦ ap string_bytes w.spelling-is ∙ sym (append-nil old) ∙ ap (λ l. old ++ l) (ap blank_if (sym w.if-is_parted_at.false))
    ] in
    spelling_step c.args.texts.now c.loop-index.index c.index-texts-index.result c.is_parted_at.result old
    (string_bytes c.if-is_parted_at.spelling) (string_bytes c.push_str.new.self)
    c.loop-index-test.true c.index-texts-index.is c.is_parted_at.ensures c.loop-index.invariant parted
    (c.in_ok-push_str.ensures.bytes ∙ ap (λ l. string_bytes c.if-is_parted_at.spelling ++ l) c.as_str.ensures.value)
