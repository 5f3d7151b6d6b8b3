use Rattle.lic_reverse.specs.Tidily.{spans_of}
use Rattle.lic_reverse.proofs.EreLemmas.{ok-changed}
use Rattle.lic_view.proofs.FreshLemmas.{fresh-placed}
use Rattle.lic_reverse.proofs.ways.reached.Reached.go_on.Goals as goal

pub add-requires-clause-next : goal.add-requires-clause-next
add-requires-clause-next c = λ s.
    fresh-placed c.args.view.now (spans_of c.in_ok-next.next s) (spans_of c.args.front.now s) (spans_of c.in_ok-more.more s) (c.in_ok-more.ensures s) (c.in_ok-next.ensures.placed s)

pub returns : goal.returns
returns c =
    ok-changed _ _ c.add.result
    (λ found added. record {
      kept = spans_of c.in_ok-next.next;
      fresh = spans_of c.in_ok-more.more;
      are_kept = c.in_ok-next.ensures;
      are_fresh = c.in_ok-more.ensures;
      added = added;
    })
    c.add.ensures
