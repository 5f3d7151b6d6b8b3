use Rattle.std.proofs.Common.{◌≡◌, ◌∙◌, ◌||◌, ◌∷◌, [], Bool, true, false, sym}
use Rattle.std.specs.Char.{encode_utf8}
use Rattle.std.specs.Prelude.{codes}
use Rattle.std.proofs.lemmas.Bool.{cond-false, false≢true}
use Rattle.lic_lines.specs.Tokens.{is_text, token_in}
use Rattle.lic_lines.proofs.signs.may_begin_sign.Goals as goal

right : (a b : Bool) → (a || b) ≡ false → b ≡ false
right false b h = h
right true b h = absurd (false≢true (sym h))

pub returns-clause-sign : goal.returns-clause-sign
unfolding encode_utf8
returns-clause-sign c = λ off.
    let t = token_in c.args.token.now in
    cond-false (is_text (0xC2 ∷ 0xA9 ∷ []) t) (record t { text = codes "copyright" }) t (sym c.has_text-2.ensures ∙ right _ _ off)
