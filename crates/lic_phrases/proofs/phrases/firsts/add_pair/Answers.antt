-- The bit of one more text, by its first and last byte.
use Rattle.std.proofs.Common.{◌≡◌, ◌==◌, ◌<◌, ◌∙◌, ℕ, zero, suc, true, false, length, sym, arith}
use Rattle.lic_phrases.proofs.FirstsLemmas.{may_have_pair-added, may_have-grows}
use Rattle.lic_phrases.proofs.phrases.firsts.add_pair.Goals as goal

not_empty : (n : ℕ) → (n == 0) ≡ false → 0 < n
not_empty zero some = absurd (let two : true ≡ false = some in cc)
not_empty (suc n) some = omega arith

pub pair_of-requires : goal.pair_of-requires
pair_of-requires c = not_empty (length c.args.text.now) (sym c.is_empty.ensures ∙ c.if-is_empty.false)

pub returns-clause-added : goal.returns-clause-added
returns-clause-added c =
    let text = c.args.text.now in
    let some : 0 < length text = not_empty (length text) (sym c.is_empty.ensures ∙ c.if-is_empty.false) in
    may_have_pair-added c.args.pairs.now text c.pair_of.result c.min.result some c.pair_of.ensures (omega arith) (omega arith)

pub returns-clause-grows : goal.returns-clause-grows
returns-clause-grows c = may_have-grows c.args.pairs.now c.pair_of.result c.min.result (omega arith) (omega arith)
