-- The ends are as good as those of all tokens.
use Rattle.std.proofs.Common.{map}
use Rattle.lic_words.specs.Expressions.{Language}
use Rattle.lic_markup.specs.Meaning.{parts_words}
use Rattle.lic_markup.specs.Parts.{part_of}
use Rattle.lic_search.proofs.ReachLemmas.{back-from-candidates}
use Rattle.lic_search.proofs.search.begins_of.Goals as goal

pub returns : goal.returns
returns c =
    back-from-candidates c.args.keep c.args.view.now (Language (parts_words (map part_of c.args.parts.now))) c.in_ok-ends.ends.items c.in_ok-over_parts.field-0.items
    c.in_ok-ends.ensures.sound c.in_ok-ends.ensures.complete c.in_ok-over_parts.ensures
