-- A text that has no bit is plain.
use Rattle.std.proofs.Common.{◌≡◌, ◌∙◌, Bool, true, false, not, refl, sym, true≢false}
use Rattle.lic_phrases.proofs.FirstsLemmas.{plain}
use Rattle.lic_phrases.proofs.phrases.firsts.Firsts.is_plain.Goals as goal

is_no : (b : Bool) → not b ≡ true → b ≡ false
is_no true is = absurd (true≢false (sym is))
is_no false is = refl

pub returns-clause-plain : goal.returns-clause-plain
returns-clause-plain c = λ none.
    plain c.args.self.now.lengths c.args.text.now c.args.self.now.others (sym c.may_have.ensures ∙ is_no c.may_have.result none)
