-- `copyright` and `https` have their bits.
use Rattle.std.specs.Prelude.{codes}
use Rattle.lic_phrases.specs.FirstTexts.{by_pair}
use Rattle.lic_phrases.proofs.phrases.firsts.no_pairs.Goals as goal

pub returns : goal.returns
returns c = record {
  sign = c.add_pair-2.ensures.grows (by_pair (codes "copyright")) c.add_pair.ensures.added;
  address = c.add_pair-2.ensures.added;
}
