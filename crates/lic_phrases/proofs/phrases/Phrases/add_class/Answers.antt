-- One more class.
use Rattle.std.proofs.Common.{◌∷◌, ◌++◌, ◌∙◌, [], ℕ, List, map, sym, ap, subst, string_bytes}
use Rattle.std.proofs.lemmas.List.{map-append}
use Rattle.lic_phrases.specs.Firsts.{bound_from}
use Rattle.lic_phrases.specs.Rewriting.{Phrase}
use Rattle.lic_phrases.specs.PhraseLists.{PhraseList, IsStored, phrases_in}
use Rattle.lic_phrases.proofs.PhraseListLemmas.{IsStored-class, phrases_in-more}
use Rattle.lic_phrases.proofs.phrases.Phrases.add_class.Goals as goal

pub invariant_of-self-2 : goal.invariant_of-self-2
invariant_of-self-2 c =
    let fields = c.self.inside in
    let grown = ap (map string_bytes) c.in_ok-push.ensures.items ∙ map-append string_bytes fields.spellings.items (c.args.spelling ∷ []) in
    subst (λ spellings. IsStored (λ k. k.items) fields.classes.entries spellings (bound_from fields.most_from)) (sym grown)
    (IsStored-class (λ k. k.items) fields.classes.entries (map string_bytes fields.spellings.items) (bound_from fields.most_from) (string_bytes c.args.spelling) c.self.invariant)

pub returns-clause-added : goal.returns-clause-added
returns-clause-added c =
    let fields = c.self.inside in
    let spellings = map string_bytes fields.spellings.items in
    let more = string_bytes c.args.spelling ∷ [] in
    let grown = ap (map string_bytes) c.in_ok-push.ensures.items ∙ map-append string_bytes fields.spellings.items (c.args.spelling ∷ []) in
    let made : List (List ℕ) → PhraseList = λ s. record { phrases = phrases_in (λ k. k.items) s fields.classes.entries; spellings = s } in
    let with_phrases : List Phrase → PhraseList = λ words. record { phrases = words; spellings = spellings ++ more } in
    let with_more : PhraseList → PhraseList = λ v. record v { spellings = v.spellings ++ more } in
    ap made grown
    ∙ ap with_phrases (phrases_in-more (λ k. k.items) spellings (string_bytes c.args.spelling) fields.classes.entries c.self.invariant.entered)
    ∙ ap with_more c.self.view_is
