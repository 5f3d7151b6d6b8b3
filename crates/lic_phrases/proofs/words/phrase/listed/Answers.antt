use Rattle.std.proofs.Common.{◌≡◌, ℕ, zero, suc, ◌<◌, ◌==◌, true, false, string_bytes, vec_len, sym, ap, ◌∙◌, arith}
use Rattle.std.specs.Str.{chars}
use Rattle.lic_phrases.specs.Keys.{texts_in}
use Rattle.lic_phrases.specs.Spelling.{spelled}
use Rattle.lic_phrases.proofs.SpelledTexts.{phrase_spelling}
use Rattle.lic_phrases.proofs.words.phrase.listed.Goals as goal

not_empty : (n : ℕ) → (n == 0) ≡ false → 0 < n
not_empty zero some = absurd (let two : true ≡ false = some in cc)
not_empty (suc n) some = omega arith

pub returns-clause-token_text : goal.returns-clause-token_text
returns-clause-token_text c =
    let some : 0 < vec_len c.in_ok-texts.texts = not_empty (vec_len c.in_ok-texts.texts) (sym c.is_empty.ensures ∙ c.if-is_empty.false) in
    phrase_spelling c.in_ok-texts.texts.items (chars c.args.phrase.now) (string_bytes c.in_ok-spelling.spelling)
    c.in_ok-texts.ensures
    (omega (arith, some, c.in_ok-texts.texts.ok.0))
    (c.in_ok-spelling.ensures ∙ ap (λ t. spelled (texts_in t)) c.deref.ensures.value)
