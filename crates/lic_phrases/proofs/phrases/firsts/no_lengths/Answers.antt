-- Each text that is not plain has its bit.
use Rattle.std.proofs.Common.{◌∷◌}
use Rattle.std.specs.Prelude.{codes}
use Rattle.lic_phrases.proofs.phrases.firsts.no_lengths.Goals as goal

pub returns : goal.returns
returns c = record {
  sign = c.add-3.ensures.grows (codes "copyright") c.add-2.ensures.added;
  address = c.add-3.ensures.added;
  parenthesis = c.add-3.ensures.grows (codes "(") (c.add-2.ensures.grows (codes "(") c.add.ensures.added);
  apostrophe = λ next rest.
      let text = 0x27 ∷ next ∷ rest in
      c.add-3.ensures.grows text (c.add-2.ensures.grows text (c.add.ensures.grows text (c.add_longer-2.ensures.grows text (c.add_longer.ensures.added next rest))));
  hyphen = λ next rest.
      let text = 0x2D ∷ next ∷ rest in
      c.add-3.ensures.grows text (c.add-2.ensures.grows text (c.add.ensures.grows text (c.add_longer-2.ensures.added next rest)));
}
