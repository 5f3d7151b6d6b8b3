use Rattle.std.proofs.Common.{[], ◌∷◌}
use Rattle.lic_view.proofs.BlankLemmas.{back-kept, back-with_blank}
use Rattle.lic_view.proofs.over.blanks.add_over_blank.Goals as goal

pub returns-in_ok-push-in-End : goal.returns-in_ok-push-in-End
returns-in_ok-push-in-End c = record {
  more = c.args.span ∷ [];
  added = c.in_ok-push-in-End.ensures.items;
  back = back-kept c.args.keep c.args.view.now c.args.span c.tokens_have_texts.ensures c.requires c.in-End.is;
}

pub returns-in_ok-push-in-Letters : goal.returns-in_ok-push-in-Letters
returns-in_ok-push-in-Letters c = record {
  more = c.with_blank.result ∷ [];
  added = c.in_ok-push-in-Letters.ensures.items;
  back = back-with_blank c.args.keep c.args.view.now c.args.span c.with_blank.result c.requires c.in-Letters.is c.with_blank.ensures;
}
