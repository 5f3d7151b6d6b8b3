-- The token begins no phrase.
use Rattle.std.proofs.Common.{◌≡◌, ◌≤◌, ◌∙◌, sym, ap, subst, arith}
use Rattle.std.specs.Prelude.{codes, bytes_eq}
use Rattle.std.proofs.lemmas.Bool.{eqb-true}
use Rattle.lic_phrases.specs.PhraseLists.{longest_from}
use Rattle.lic_phrases.proofs.SettlingLemmas.{Settles-alone}
use Rattle.lic_phrases.proofs.rewriter.Rewriter.leaves.Goals as goal

pub returns : goal.returns
returns c = λ zero settled taken token text before.
    let words = c.args.phrases.now.phrases in
    let begins_none : c.most_from.result ≡ 0 = eqb-true c.most_from.result 0 zero in
    let bound : longest_from words token.text ≤ c.most_from.result =
    subst (λ l. longest_from words l ≤ c.most_from.result) (sym text) c.most_from.ensures.bound in
    let bound' : longest_from words token.text ≤ 0 = omega arith in
    Settles-alone words token settled taken (ap (bytes_eq (codes "copyright")) text ∙ sym (c.eq.ensures ∙ ap (λ l. bytes_eq l c.args.text.now) c.as_bytes.ensures.value) ∙ c.if-eq.false)
    (ap (bytes_eq (codes "https")) text ∙ sym (c.eq-else-eq.ensures ∙ ap (λ l. bytes_eq l c.args.text.now) c.as_bytes-else-eq.ensures.value) ∙ c.if-eq-2.false) c.most_from.ensures.some bound' before
