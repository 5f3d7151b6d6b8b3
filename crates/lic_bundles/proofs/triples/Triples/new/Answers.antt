use Rattle.std.proofs.Common.{◌≡◌, List, [], ◌++◌, sym, ap, ◌∙◌, subst, arith}
use Rattle.lic_bundles.specs.declared.bundle.Bundle.{Bundle}
use Rattle.lic_bundles.specs.Bundles.{AreTriples}
use Rattle.lic_bundles.specs.Listing.{all_triples}
use Rattle.lic_bundles.specs.Merging.{AreQueues}
use Rattle.lic_bundles.proofs.Waiting.{AreQueues-waiting, AreTriples-waiting, AreTriples-only}
use Rattle.lic_bundles.proofs.triples.Triples.new.Goals as goal

-- all that is held waits
held : (c : goal.After-from) → c.in_ok-begun.begun.items ++ c.from.result.items ≡ c.in_ok-waiting.waiting.items
held c = ap (λ bs. bs ++ c.from.result.items) c.in_ok-begun.ensures.items ∙ c.from.ensures.0

pub invariant_of-result : goal.invariant_of-result
invariant_of-result c =
    let parts : List Bundle = c.in_ok-waiting.waiting.items in
    let queues : AreQueues [] parts =
    AreQueues-waiting c.args.bundles.items c.args.after parts c.in_ok-waiting.ensures.parts c.requires c.in_ok-waiting.ensures.sorted in (
      subst (λ bs. AreQueues bs c.from.result.items) (sym c.in_ok-begun.ensures.items) (subst (AreQueues []) (sym c.from.ensures.0) queues),
      omega (arith, c.in_ok-begun.ensures.len, c.in_ok-begun.ensures.capacity, c.from.ensures.1),
    )

pub returns-clause-all : goal.returns-clause-all
returns-clause-all c =
    subst (λ bs. AreTriples c.args.bundles.items c.args.after (all_triples bs)) (sym (held c))
    (AreTriples-waiting c.args.bundles.items c.args.after c.in_ok-waiting.waiting.items c.in_ok-waiting.ensures.parts)

pub returns-clause-only : goal.returns-clause-only
returns-clause-only c = λ others all.
    AreTriples-only c.args.bundles.items c.args.after c.in_ok-waiting.waiting.items c.in_ok-waiting.ensures.parts others all
    ∙ ap all_triples (sym (held c))
