use Rattle.std.proofs.Common.{◌≡◌, ◌∙◌, ◌||◌, Bool, true, false, sym}
use Rattle.std.specs.Char.{encode_utf8}
use Rattle.std.proofs.lemmas.Bool.{false≢true}
use Rattle.lic_lines.proofs.text_start.may_be_sign.Goals as goal

right : (a b : Bool) → (a || b) ≡ false → b ≡ false
right false b h = h
right true b h = absurd (false≢true (sym h))

pub returns-clause-sign : goal.returns-clause-sign
unfolding encode_utf8
returns-clause-sign c = λ off. sym c.eq-2.ensures ∙ right _ _ off
