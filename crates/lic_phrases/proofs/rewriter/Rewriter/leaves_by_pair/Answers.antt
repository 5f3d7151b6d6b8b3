-- The token is no sign, no `https` and begins no phrase.
use Rattle.std.proofs.Common.{◌≡◌, ◌≤◌, ◌∙◌, ap, arith}
use Rattle.std.specs.Prelude.{codes, bytes_eq}
use Rattle.lic_phrases.specs.PhraseLists.{longest_from}
use Rattle.lic_phrases.proofs.SettlingLemmas.{Settles-alone}
use Rattle.lic_phrases.proofs.rewriter.Rewriter.leaves_by_pair.Goals as goal

pub returns : goal.returns
returns c = λ is settled taken token text before.
    let words = c.args.phrases.now.phrases in
    let other = c.begins_none.ensures.no_sign is in
    let none : longest_from words token.text ≡ 0 = ap (longest_from words) text ∙ c.begins_none.ensures.none is in
    let bound : longest_from words token.text ≤ 0 = omega arith in
    Settles-alone words token settled taken (ap (bytes_eq (codes "copyright")) text ∙ other.sign) (ap (bytes_eq (codes "https")) text ∙ other.address)
    c.begins_none.ensures.some bound before
