use Rattle.std.proofs.Common.{◌≡◌, ℕ, ◌<◌, List, length, get_or, refl, sym, ap, ◌∙◌, arith}
use Rattle.std.proofs.lemmas.Bool.{eqb-false}
use Rattle.std.proofs.lemmas.List.{get_or_default}
use Rattle.lic_kind.proofs.rules.beginnings.Beginnings.add_front.Goals as goal

pub returns-clause-known : goal.returns-clause-known
returns-clause-known c = λ k small on.
    let text : List ℕ = c.args.text.now in
    let some : 0 < length text = omega (arith, eqb-false (length text) 0 (sym c.is_empty.ensures ∙ c.if-is_empty.false)) in
    c.add.ensures.known k text small on refl some (get_or_default text 0 0 c.index-text-0.result some ∙ sym c.index-text-0.is)
    (λ long.
    let at : 1 ≡ c.min.result = omega (arith, c.min.ensures) in
    ap (λ n. get_or text n 0) at ∙ get_or_default text c.min.result 0 c.index-text-min.result (omega (arith, at)) ∙ sym c.index-text-min.is)
