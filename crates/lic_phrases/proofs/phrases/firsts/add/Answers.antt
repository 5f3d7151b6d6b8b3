-- The bit of one more text.
use Rattle.std.proofs.Common.{◌≡◌, ◌==◌, ◌<◌, ◌∙◌, ℕ, zero, suc, true, false, length, get_or, sym, arith}
use Rattle.lic_phrases.proofs.FirstsLemmas.{may_have-added, may_have-grows}
use Rattle.lic_phrases.proofs.phrases.firsts.add.Goals as goal

not_empty : (n : ℕ) → (n == 0) ≡ false → 0 < n
not_empty zero some = absurd (let two : true ≡ false = some in cc)
not_empty (suc n) some = omega arith

pub returns-clause-added : goal.returns-clause-added
returns-clause-added c =
    let text = c.args.text.now in
    let some : 0 < length text = not_empty (length text) (sym c.is_empty.ensures ∙ c.if-is_empty.false) in
    let first : get_or text 0 0 < 256 = omega (arith, (c.type_inv.text 0).fits) in
    may_have-added c.args.lengths.now text c.min.result some (omega (arith, first)) (omega arith)

pub returns-clause-grows : goal.returns-clause-grows
returns-clause-grows c =
    let first : get_or c.args.text.now 0 0 < 256 = omega (arith, (c.type_inv.text 0).fits) in
    may_have-grows c.args.lengths.now (get_or c.args.text.now 0 0) c.min.result (omega (arith, first)) (omega arith)
