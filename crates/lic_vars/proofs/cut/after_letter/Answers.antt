-- After a letter or a blank.
use Rattle.std.proofs.Common.{◌≡◌, ◌+◌, ◌∷◌, [], false, length, ap, ap₂, sym, subst, arith}
use Rattle.lic_vars.specs.Cuts.{LeadsTo}
use Rattle.lic_vars.proofs.StepOverLemmas.{past, cut_at, leads-blank, leads-letter, letter-within}
use Rattle.lic_vars.proofs.cut.after_letter.Goals as goal

pub returns-then-letter-eq32 : goal.returns-then-letter-eq32
returns-then-letter-eq32 c = leads-blank c.args.view.now c.tokens_have_texts.ensures c.args.cut c.args.letter c.if-letter-eq32.true

pub overflow_add-result : goal.overflow_add-result
overflow_add-result c =
    let tokens = c.args.view.now in
    let there = letter-within tokens c.tokens_have_texts.ensures c.args.cut c.args.letter c.if-letter-eq32.false c.requires.0 c.requires.1 in
    let same = ap length c.bytes-length.ensures in
    omega (arith, there, same, c.letter_place.ensures, c.len_utf8.ensures.len, c.bytes-length.type_inv.0, c.bytes-length.type_inv.1)

pub returns : goal.returns
returns c =
    let tokens = c.args.view.now in
    let texts = c.tokens_have_texts.ensures in
    let cut = c.args.cut in
    let here : c.letter_place.result + c.len_utf8.result ≡ past tokens texts cut.place cut.is_apart c.args.letter =
    ap₂ (λ a b. a + b) c.letter_place.ensures c.len_utf8.ensures.len in
    subst (λ p. LeadsTo tokens cut (c.args.letter ∷ []) (cut_at p false)) (sym here)
    (leads-letter tokens texts cut c.args.letter c.if-letter-eq32.false c.requires.0 c.requires.1)
