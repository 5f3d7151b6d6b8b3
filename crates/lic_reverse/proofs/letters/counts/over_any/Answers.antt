-- The least last tokens lead to the same places.
use Rattle.lic_view.specs.PlaceSets.{Reaches}
use Rattle.lic_reverse.proofs.CountNumbers.{back-kept_of}
use Rattle.lic_reverse.proofs.CountWords.{Counted}
use Rattle.lic_reverse.proofs.letters.counts.over_any.Goals as goal

pub kept-requires : goal.kept-requires
kept-requires c = c.in_ok-found.ensures.placed

pub returns : goal.returns
returns c =
    back-kept_of c.args.keep (λ v. v.items) c.args.view.now (Counted c.args.min c.args.max) (Reaches c.args.view.now c.args.spans.items)
    c.in_ok-found.found.items c.kept.result c.tokens_have_texts.ensures
    c.in_ok-found.ensures c.kept.ensures
