-- A look-up by key.
use Rattle.std.proofs.Common.{◌≡◌, ◌∙◌, ◌<◌, map, length, sym, ap, subst, string_bytes}
use Rattle.std.specs.Prelude.{option_map, IfSome}
use Rattle.lic_phrases.specs.PhraseLists.{phrase_of, phrase_with, key_texts}
use Rattle.lic_phrases.proofs.PhraseListLemmas.{lookup-phrases, lookup-known}
use Rattle.lic_phrases.proofs.phrases.Phrases.class_of.Goals as goal

pub returns-clause-class : goal.returns-clause-class
returns-clause-class c = λ is_key.
    let spellings = map string_bytes c.self.inside.spellings.items in
    subst (λ v. option_map (phrase_of v.spellings c.args.key.now) c.copied.result ≡ phrase_with v.phrases (key_texts c.args.key.now)) c.self.view_is
    (ap (option_map (phrase_of spellings c.args.key.now)) (c.copied.ensures ∙ c.get.ensures.value)
    ∙ lookup-phrases (λ k. k.items) (length spellings) spellings c.self.inside.classes.entries c.args.key.now c.self.invariant.entered is_key)

pub returns-clause-known : goal.returns-clause-known
returns-clause-known c =
    let spellings = map string_bytes c.self.inside.spellings.items in
    subst (λ v. IfSome c.copied.result (λ class. class < length v.spellings)) c.self.view_is
    (subst (λ o. IfSome o (λ class. class < length spellings)) (sym (c.copied.ensures ∙ c.get.ensures.value))
    (lookup-known (λ k. k.items) (length spellings) c.self.inside.classes.entries _ c.self.invariant.entered))
