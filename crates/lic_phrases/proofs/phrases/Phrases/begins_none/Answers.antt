-- Phrases have one to eight tokens.
use Rattle.std.proofs.Common.{length, map, string_bytes, subst}
use Rattle.lic_phrases.specs.PhraseLists.{HaveTokens}
use Rattle.lic_phrases.proofs.PhraseListLemmas.{phrases_in-HaveTokens}
use Rattle.lic_phrases.proofs.phrases.Phrases.begins_none.Goals as goal

pub returns-clause-some : goal.returns-clause-some
returns-clause-some c =
    let spellings = map string_bytes c.self.inside.spellings.items in
    subst (λ v. HaveTokens v.phrases) c.self.view_is
    (phrases_in-HaveTokens (λ k. k.items)
    (length spellings) spellings c.self.inside.classes.entries c.self.invariant.entered)
