-- A text that has no bit by its first and last byte is neither sign nor `https`.
use Rattle.std.proofs.Common.{◌≡◌, ◌∙◌, Bool, true, false, not, refl, sym, true≢false}
use Rattle.lic_phrases.proofs.FirstsLemmas.{no_sign}
use Rattle.lic_phrases.proofs.phrases.firsts.Firsts.begins_none.Goals as goal

is_no : (b : Bool) → not b ≡ true → b ≡ false
is_no true is = absurd (true≢false (sym is))
is_no false is = refl

pub returns-clause-no_sign : goal.returns-clause-no_sign
returns-clause-no_sign c = λ none.
    no_sign c.args.self.now.pairs c.args.text.now c.args.self.now.signs (sym c.may_have_pair.ensures ∙ is_no c.may_have_pair.result none)
