use Rattle.std.proofs.Common.{◌≡◌, List, [], ◌∷◌, ◌++◌, MatchOption, length, sym, ap, ◌∙◌, subst, arith, rules}
use Rattle.std.specs.Option.{option_to_list}
use Rattle.lic_set.specs.declared.triple.Triple.{Triple}
use Rattle.lic_bundles.specs.declared.bundle.Bundle.{Bundle}
use Rattle.lic_bundles.specs.Bundles.{others_of}
use Rattle.lic_bundles.specs.Listing.{all_triples}
use Rattle.lic_bundles.specs.Merging.{AreQueues}
use Rattle.lic_bundles.proofs.Queues.{AreQueues-step, all_triples-step, all_triples-nil}
use Rattle.lic_bundles.proofs.triples.TriplesIterator.next.Goals as goal

none_left : (begun waiting : List Bundle) → begun ≡ [] → waiting ≡ [] → all_triples (begun ++ waiting) ≡ []
none_left begun waiting no_begun no_waiting =
    ap (λ bs. all_triples (bs ++ waiting)) no_begun ∙ (ap all_triples no_waiting ∙ all_triples-nil)

pub returns-in_err-bundle-clause-steps : goal.returns-in_err-bundle-clause-steps
returns-in_err-bundle-clause-steps c =
    let none = c.in_err-bundle.ensures.none in
    let unchanged = c.in_err-bundle.ensures.unchanged in
    let old = c.self.inside in
    let left : List Triple = all_triples (c.take_first.new.begun.items ++ c.take_first.new.waiting.items) in
    subst (λ r. MatchOption r ((c.args.self.now ≡ []) × (left ≡ [])) (λ t. c.args.self.now ≡ t ∷ left)) (sym c.from_residual.ensures) (
      sym c.self.view_is ∙ none_left old.begun.items old.waiting.items none.0 none.1,
      none_left c.take_first.new.begun.items c.take_first.new.waiting.items unchanged.0 unchanged.1,
    )

-- what is put back
put_back : (c : goal.After-first) → c.put_back.new.queue.items ≡ c.take_first.new.begun.items ++ option_to_list (others_of c.in_ok-bundle.bundle)
put_back c = c.put_back.ensures.items ∙ ap (λ o. c.take_first.new.begun.items ++ option_to_list o) c.others.ensures

pub invariant_of-self-2 : goal.invariant_of-self-2
invariant_of-self-2 c =
    let old = c.self.inside in
    let new = c.take_first.new in
    let taken = c.in_ok-bundle.ensures in (
      subst (λ bs. AreQueues bs new.waiting.items) (sym (put_back c))
          (AreQueues-step c.in_ok-bundle.bundle old.begun.items old.waiting.items new.begun.items new.waiting.items taken.taken taken.first c.self.invariant.0),
      omega (arith, taken.len, taken.capacity, c.put_back.ensures.len, c.put_back.ensures.capacity, c.self.invariant.1),
    )

step : (c : goal.After-first) → c.args.self.now ≡ c.first.result ∷ all_triples (c.put_back.new.queue.items ++ c.take_first.new.waiting.items)
step c =
    let old = c.self.inside in
    let new = c.take_first.new in
    let b : Bundle = c.in_ok-bundle.bundle in
    let taken = c.in_ok-bundle.ensures in
    sym c.self.view_is
    ∙ (all_triples-step b old.begun.items old.waiting.items new.begun.items new.waiting.items taken.taken taken.first c.self.invariant.0
    ∙ (ap (λ t. t ∷ all_triples ((new.begun.items ++ option_to_list (others_of b)) ++ new.waiting.items)) (sym c.first.ensures)
    ∙ ap (λ bs. c.first.result ∷ all_triples (bs ++ new.waiting.items)) (sym (put_back c))))

pub returns-clause-steps : goal.returns-clause-steps
returns-clause-steps c = step c

pub returns-clause-goes : goal.returns-clause-goes
returns-clause-goes c = record {
  on = λ f. (search rules, search rules, omega (arith, ap length (step c)));
  keeps = search rules;
  rests = λ f. search rules;
}
