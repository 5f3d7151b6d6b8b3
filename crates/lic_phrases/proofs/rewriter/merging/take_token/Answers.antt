-- A token that begins no phrase, where none waits, is given by itself.
use Rattle.std.proofs.Common.{◌≡◌, ◌≤◌, ◌++◌, ◌∷◌, ◌∙◌, [], None, inr, false, length, min, refl, sym, ap, subst, arith}
use Rattle.std.proofs.lemmas.Bool.{eqb-true}
use Rattle.lic_lines.specs.Tokens.{small_bytes, tokens_in}
use Rattle.lic_phrases.specs.PhraseLists.{longest_from}
use Rattle.lic_phrases.specs.Waiting.{texts_of, first_phrase, GivesMore}
use Rattle.lic_phrases.proofs.MergingLemmas.{empty_list, GivesMore-first, OnOk-one}
use Rattle.lic_phrases.proofs.rewriter.merging.take_token.Goals as goal

pub returns-then-most_from-eq0-clause-given : goal.returns-then-most_from-eq0-clause-given
returns-then-most_from-eq0-clause-given c =
    let list = c.args.phrases.now in
    let token = c.args.token in
    let items = c.args.waiting.now.items in
    let given = c.args.output.now.items in
    let given' = c.give_alone.new.output.items in
    let one = token ∷ [] in
    let none : c.args.waiting.now.len ≡ 0 = eqb-true _ _ (sym c.is_empty.ensures ∙ c.if-is_empty.true) in
    let empty : items ≡ [] = empty_list items (omega (arith, c.args.waiting.now.ok.0)) in
    let bound : longest_from list.phrases (small_bytes token.text) ≤ c.most_from.result =
    subst (λ text. longest_from list.phrases text
    ≤ c.most_from.result) (c.as_bytes.ensures.value ∙ c.as_str.ensures) c.most_from.ensures.bound in
    let zero_is : 0 ≡ min 0 (length one) = omega arith in
    OnOk-one c.give_alone.result _ _
    (λ more.
    subst (λ l. GivesMore list false given (l ++ one) given' items) (sym empty)
    (GivesMore-first list false given one token 0 None given' items (omega arith) refl c.most_from.ensures.some (omega arith) (inr (omega arith))
    (ap (first_phrase list.phrases (texts_of (tokens_in one))) zero_is) tt empty (more list.spellings)))
    c.give_alone.ensures.given
