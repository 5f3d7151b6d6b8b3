use Rattle.std.proofs.Common.{◌≡◌, ◌==◌, not, count_by, sym, ap, ◌∙◌, arith}
use Rattle.std.proofs.lemmas.Iterator.{YieldsList-from_chars}
use Rattle.std.proofs.lemmas.Iterator.Consumers.{YieldsList-end}
use Rattle.std.proofs.lemmas.List.{map-id}
use Rattle.lic_words.specs.Words.{blank}
use Rattle.std.specs.Str.{chars}
use Rattle.lic_words.specs.Letters.{letters_in}
use Rattle.lic_words.proofs.Counts.{letters_in-count}
use Rattle.lic_auto.proofs.steps.count_steps.Goals as goal

pub returns-clause-least : goal.returns-clause-least
returns-clause-least c =
    let end = YieldsList-end (YieldsList-from_chars c.args.token.now c.utf8.token cc) c.loop-c.yielded _ c.loop-c.yielded_by _ _ c.in-None.is c.next.ensures.steps in
    let whole : count_by (λ c. not (c == blank)) c.loop-c.yielded ≡ letters_in (chars c.args.token.now) =
    ap (count_by (λ c. not (c == blank))) (sym (map-id c.loop-c.yielded) ∙ end.0) ∙ sym (letters_in-count (chars c.args.token.now)) in
    λ h. omega (arith, whole, c.loop-c.invariant.least h)

pub returns-clause-most : goal.returns-clause-most
returns-clause-most c =
    let end = YieldsList-end (YieldsList-from_chars c.args.token.now c.utf8.token cc) c.loop-c.yielded _ c.loop-c.yielded_by _ _ c.in-None.is c.next.ensures.steps in
    let whole : count_by (λ c. not (c == blank)) c.loop-c.yielded ≡ letters_in (chars c.args.token.now) =
    ap (count_by (λ c. not (c == blank))) (sym (map-id c.loop-c.yielded) ∙ end.0) ∙ sym (letters_in-count (chars c.args.token.now)) in
    omega (arith, whole, c.loop-c.invariant.most)
