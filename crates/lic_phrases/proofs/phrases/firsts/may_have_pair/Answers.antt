-- The bit of a text by its first and last byte.
use Rattle.std.proofs.Common.{◌∙◌, length, min, get_or, ap}
use Rattle.lic_trim.specs.PieceLengths.{has_bit}
use Rattle.lic_phrases.proofs.FirstsLemmas.{may_have_pair-is}
use Rattle.lic_phrases.proofs.phrases.firsts.may_have_pair.Goals as goal

pub returns : goal.returns
returns c =
    let pairs = c.args.pairs.now in
    let text = c.args.text.now in
    c.has.ensures ∙ ap (λ row. has_bit (get_or pairs row 0) (min (length text) 31)) c.pair_of.ensures ∙ may_have_pair-is pairs text c.requires
