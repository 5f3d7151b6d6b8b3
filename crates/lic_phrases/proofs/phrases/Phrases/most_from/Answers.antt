-- Phrases have one to eight tokens.
use Rattle.std.proofs.Common.{◌≤◌, length, map, string_bytes, sym, subst}
use Rattle.lic_phrases.specs.PhraseLists.{HaveTokens}
use Rattle.lic_phrases.proofs.PhraseListLemmas.{phrases_in-HaveTokens}
use Rattle.lic_phrases.proofs.phrases.Phrases.most_from.Goals as goal

pub returns-clause-short : goal.returns-clause-short
returns-clause-short c = subst (λ n. n ≤ 8) (sym c.most_from.ensures) (c.self.invariant.short c.args.text.now)

pub returns-clause-some : goal.returns-clause-some
returns-clause-some c =
    let spellings = map string_bytes c.self.inside.spellings.items in
    subst (λ v. HaveTokens v.phrases) c.self.view_is
    (phrases_in-HaveTokens (λ k. k.items)
    (length spellings) spellings c.self.inside.classes.entries c.self.invariant.entered)
