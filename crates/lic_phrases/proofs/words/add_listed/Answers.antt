use Rattle.std.proofs.Common.{◌∙◌, [], List, ℕ, get_or, map, string_bytes, ap, ap₂}
use Rattle.lic_phrases.specs.PhraseLists.{PhraseList, with_added}
use Rattle.lic_phrases.specs.Rewriting.{Phrase}
use Rattle.lic_phrases.proofs.words.add_listed.Goals as goal

pub returns-clause-classes : goal.returns-clause-classes
returns-clause-classes c =
    ap (λ (l : PhraseList). l.spellings) c.in_ok-add.ensures.added ∙ ap (λ (l : PhraseList). l.spellings) c.in_ok-number.ensures.added

pub returns-clause-words : goal.returns-clause-words
returns-clause-words c =
    let heads = c.args.heads.now in
    let as_phrase : List (List ℕ) → List ℕ → Phrase = λ texts s. record { texts = texts; spelling = s } in
    ap (λ (l : PhraseList). l.phrases) c.in_ok-add.ensures.added
    ∙ ap₂ with_added (ap (λ (l : PhraseList). l.phrases) c.in_ok-number.ensures.added)
    (ap₂ as_phrase (ap (map string_bytes) c.deref.ensures.value)
    (ap₂ (λ (l : List (List ℕ)) (n : ℕ). get_or l (get_or heads n 0) [])
    (ap (λ (l : PhraseList). l.spellings) c.in_ok-number.ensures.added) c.in_ok-number.ensures.number))
