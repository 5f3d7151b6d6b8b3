use Rattle.std.proofs.Common.{◌≡◌, ℕ, ◌<◌, ◌-◌, List, length, get_or, reverse, sym, ap, ◌∙◌, arith}
use Rattle.std.proofs.lemmas.Bool.{eqb-false}
use Rattle.std.proofs.lemmas.List.{get_or_default, get_or-reverse, length-reverse}
use Rattle.lic_kind.proofs.rules.beginnings.Beginnings.add_end.Goals as goal

pub returns-clause-known : goal.returns-clause-known
returns-clause-known c = λ k small on.
    let text : List ℕ = c.args.text.now in
    let last = length text - 1 in
    let some : 0 < length text = omega (arith, eqb-false (length text) 0 (sym c.is_empty.ensures ∙ c.if-is_empty.false)) in
    c.add.ensures.known k (reverse text) small on (length-reverse text) some
    (let at : last - 0 ≡ last = omega arith in
    get_or-reverse text 0 0 some ∙ ap (λ n. get_or text n 0) at ∙ get_or_default text last 0 c.index-text-last.result (omega (arith, some)) ∙ sym c.index-text-last.is)
    (λ long.
    let at : last - 1 ≡ last - c.min.result = omega (arith, c.min.ensures) in
    get_or-reverse text 1 0 long ∙ ap (λ n. get_or text n 0) at
    ∙ get_or_default text (last - c.min.result) 0 c.index-text-last-2.result (omega (arith, some)) ∙ sym c.index-text-last-2.is)
