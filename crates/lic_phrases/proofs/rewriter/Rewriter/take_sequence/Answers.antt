-- A token that is no `https`, where none waits before it.
use Rattle.std.proofs.Common.{◌≡◌, ◌∷◌, ◌∙◌, [], map, sym, subst, arith}
use Rattle.std.proofs.lemmas.Bool.{eqb-true}
use Rattle.lic_lines.specs.Tokens.{token_in, tokens_in}
use Rattle.lic_phrases.specs.Held.{held}
use Rattle.lic_phrases.specs.Settling.{GivesSequences}
use Rattle.lic_phrases.specs.Waiting.{spanned_in}
use Rattle.lic_phrases.proofs.MergingLemmas.{empty_list, OnOk-one}
use Rattle.lic_phrases.proofs.SettlingLemmas.{GivesSequences-plain}
use Rattle.lic_phrases.proofs.rewriter.Rewriter.take_sequence.Goals as goal

pub returns-then-not-is_https-clause-given : goal.returns-then-not-is_https-clause-given
returns-then-not-is_https-clause-given c =
    let list = c.args.phrases.now in
    let fields = c.self.inside in
    let sequence = c.args.sequence in
    let sign = held fields.sign in
    let waiting = tokens_in fields.waiting.items in
    let waiting' = c.take_token.new.waiting.items in
    let old = map (spanned_in list.spellings) c.args.output.now.items in
    let new = map (spanned_in list.spellings) c.take_token.new.output.items in
    let none : fields.address.len ≡ 0 = eqb-true _ _ (sym c.is_empty.ensures ∙ c.if-is_empty.true) in
    let empty : fields.address.items ≡ [] = empty_list fields.address.items (omega (arith, fields.address.ok.0)) in
    OnOk-one c.take_token.result _ _
    (λ more.
    subst (λ k. GivesSequences list.phrases old k (token_in sequence ∷ []) new
    (record {
      sign = sign;
      address = tokens_in fields.address.items;
      phrase =
          tokens_in waiting';
    })) c.self.view_is
    (subst (λ l. GivesSequences list.phrases old (record { sign = sign; address = tokens_in l; phrase = waiting })
    (token_in sequence ∷ []) new (record { sign = sign; address = tokens_in l; phrase = tokens_in waiting' }))
    (sym empty)
    (GivesSequences-plain list c.args.output.now.items c.take_token.new.output.items fields.waiting.items waiting' sequence sign
    (sym c.is_https.ensures ∙ c.if-not-is_https.true) more)))
    c.take_token.ensures.given
