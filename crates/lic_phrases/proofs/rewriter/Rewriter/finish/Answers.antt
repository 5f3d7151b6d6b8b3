-- The end of a text.
use Rattle.std.proofs.Common.{◌≡◌, ◌++◌, ◌∙◌, [], map, refl, ap, subst}
use Rattle.std.proofs.lemmas.List.{map-append}
use Rattle.lic_lines.specs.Tokens.{token_in, tokens_in}
use Rattle.lic_phrases.specs.Rewriting.{spanned, phrases_joined}
use Rattle.lic_phrases.specs.Waiting.{spanned_in}
use Rattle.lic_phrases.proofs.SettlingLemmas.{Settles-end, GivesSequences-past, OnOk-both, after_front}
use Rattle.lic_phrases.proofs.rewriter.Rewriter.finish.Goals as goal

pub returns-clause-whole : goal.returns-clause-whole
returns-clause-whole c =
    let words = c.args.phrases.now.phrases in
    let spellings = c.args.phrases.now.spellings in
    let fields = c.rewriter.inside in
    let kept = c.args.self in
    let kept' = c.take_sign.new.self in
    let waiting = tokens_in c.append.new.self.items in
    let old = map (spanned_in spellings) c.args.output.now.items in
    let between = map (spanned_in spellings) c.take_sign.new.output.items in
    let new = map (spanned_in spellings) c.give_known.new.output.items in
    let gathered : waiting ≡ kept'.phrase ++ kept'.address =
    subst (λ k. waiting ≡ k.phrase ++ k.address) c.rewriter.view_is
    (ap tokens_in c.in_ok-append.ensures.items ∙ map-append token_in fields.waiting.items fields.address.items) in
    OnOk-both c.give_known.result _ _ _
    (λ more all. λ front taken before.
    Settles-end words taken (front ++ old) (front ++ between) (front ++ new) kept kept' waiting
    before
    (GivesSequences-past words front old between kept kept' kept.sign c.in_ok-take_sign.ensures.given)
    (c.in_ok-take_sign.ensures.short before.short)
    gathered
    (after_front front between new _ _ (more [] (λ _. refl) ∙ ap (λ l. new ++ map spanned (phrases_joined words (tokens_in l ++ []))) all)))
    c.give_known.ensures.given
    (c.give_known.ensures.all refl)
