use Rattle.std.proofs.Common.{◌≡◌, string_bytes, length, sym, ap, subst, ◌∙◌, arith}
use Rattle.std.proofs.lemmas.List.{length-map}
use Rattle.lic_phrases.specs.Listed.{HaveRepresentatives, phrases_in, spellings_in, with_representatives}
use Rattle.lic_phrases.specs.Keys.{texts_in}
use Rattle.lic_phrases.specs.TokenTexts.{HaveTokenTexts}
use Rattle.lic_phrases.specs.WordLists.{AreWords, phrase_lines}
use Rattle.lic_phrases.proofs.RepresentativeLemmas.{HaveRepresentatives-read}
use Rattle.lic_phrases.proofs.ListedLemmas.{words_read}
use Rattle.lic_phrases.proofs.SpelledTexts.{with_representatives-texts}
use Rattle.lic_phrases.proofs.words.Words.read.Goals as goal

pub with_representatives-requires : goal.with_representatives-requires
with_representatives-requires c =
    let reader = c.read_lines.new.self in
    let phrases = phrases_in reader.phrases.items in
    let read = c.in_ok-read_lines.ensures in
    subst (HaveRepresentatives phrases) (sym c.deref.ensures.value)
    (HaveRepresentatives-read (phrase_lines c.args.text.now) phrases reader.heads.items read.read read.sound)

pub returns-clause-accepted : goal.returns-clause-accepted
returns-clause-accepted c = c.in_ok-read_lines.ensures.sound

pub returns-clause-words : goal.returns-clause-words
returns-clause-words c =
    let lines = phrase_lines c.args.text.now in
    let reader = c.read_lines.new.self in
    let phrases = phrases_in reader.phrases.items in
    let spellings = spellings_in reader.phrases.items in
    let read = c.in_ok-read_lines.ensures in
    subst (AreWords lines) (sym (c.in_ok-phrases.ensures ∙ ap (with_representatives phrases spellings) c.deref.ensures.value))
    (words_read lines reader.keys.keys reader.phrases.items reader.heads.items read.listed read.read)

pub invariant_of-result : goal.invariant_of-result
invariant_of-result c =
    let reader = c.read_lines.new.self in
    let items = reader.phrases.items in
    let phrases = phrases_in items in
    let spellings = spellings_in items in
    let read = c.in_ok-read_lines.ensures in
    let heads = HaveRepresentatives-read (phrase_lines c.args.text.now) phrases reader.heads.items read.read read.sound in
    let as_many : length spellings ≡ length phrases =
    omega (
      arith,
      length-map items (λ p. string_bytes p.spelling),
      length-map items (λ p. texts_in p.texts.items),
    ) in
    subst HaveTokenTexts (sym (c.in_ok-phrases.ensures ∙ ap (with_representatives phrases spellings) c.deref.ensures.value))
    (with_representatives-texts phrases spellings reader.heads.items heads as_many read.listed.token_texts)
