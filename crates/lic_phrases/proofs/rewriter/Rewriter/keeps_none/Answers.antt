-- Each of the three indices is empty.
use Rattle.std.proofs.Common.{◌≡◌, ◌∙◌, [], Option, None, Some, false, refl, sym, arith}
use Rattle.std.specs.Option.{is_some}
use Rattle.std.proofs.lemmas.Bool.{eqb-true, false≢true}
use Rattle.lic_lines.specs.Tokens.{tokens_in}
use Rattle.lic_lines.specs.declared.tokens.FirstToken.{FirstToken}
use Rattle.lic_phrases.specs.Held.{held}
use Rattle.lic_phrases.specs.Settling.{Kept, nothing_kept}
use Rattle.lic_phrases.proofs.MergingLemmas.{empty_list}
use Rattle.lic_phrases.proofs.rewriter.Rewriter.keeps_none.Goals as goal

none_held : (o : Option FirstToken) → is_some o ≡ false → held o ≡ []
none_held None is = refl
none_held (Some t) is = absurd (false≢true (sym is))

pub returns : goal.returns
returns c = λ empty.
    let fields = c.self.inside in
    let sign : held fields.sign ≡ [] = none_held fields.sign (sym c.is_some.ensures ∙ c.if-is_some.false) in
    let no_address : fields.address.len ≡ 0 = eqb-true _ _ (sym c.is_empty.ensures ∙ c.if-not-is_empty.false) in
    let address : fields.address.items ≡ [] = empty_list fields.address.items (omega (arith, fields.address.ok.0)) in
    let none_waits : fields.waiting.len ≡ 0 = eqb-true _ _ (sym c.is_empty-2.ensures ∙ empty) in
    let waiting : fields.waiting.items ≡ [] = empty_list fields.waiting.items (omega (arith, fields.waiting.ok.0)) in
    let inside : Kept = record { sign = held fields.sign; address = tokens_in fields.address.items; phrase = tokens_in fields.waiting.items } in
    let none : inside ≡ nothing_kept = λ i. record { sign = sign i; address = tokens_in (address i); phrase = tokens_in (waiting i) } in
    sym c.self.view_is ∙ none
