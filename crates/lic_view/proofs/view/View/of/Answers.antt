-- Some tokens of a text.
use Rattle.std.proofs.Common.{rules}
use Rattle.lic_view.proofs.ViewRanges.{part-are_texts}
use Rattle.lic_view.proofs.view.View.of.Goals as goal

pub invariant_of-result : goal.invariant_of-result
invariant_of-result c = (
  c.requires,
  part-are_texts c.args.tokens.now c.args.first c.args.count c.requires
      (record { utf8 = c.texts_are_utf8.ensures; texts = c.texts_are_token_texts.ensures }),
  c.spelled_from-start.ensures,
  search rules,
)
