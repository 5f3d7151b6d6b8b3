use Rattle.std.proofs.Common.{◌↔◌, IsTrue, slice_index_or, subst}
use Rattle.lic_set.specs.Sets.{words_of}
use Rattle.lic_words.specs.Describing.{IsDescribed}
use Rattle.lic_set.specs.Matches.{all_letters}
use Rattle.lic_engine.proofs.checking.describes_original.Goals as goal

pub returns-clause-yes : goal.returns-clause-yes
returns-clause-yes c = λ d.
    subst (λ ts. IsTrue c.in_ok-describes.field-0 ↔ IsDescribed (words_of (slice_index_or c.args.set.now c.args.k d)) (all_letters ts))
    (c.in_ok-text.ensures.tokens d) (c.in_ok-describes.ensures d)
