use Rattle.std.proofs.Common.{rules, ◌≡◌, map, length, Contains, sym, ◌∙◌, subst, IfOk}
use Rattle.std.proofs.lemmas.Iterator.{YieldsList-from_map, YieldsList-from_slice, items_from_collect}
use Rattle.std.proofs.lemmas.Iterator.Consumers.{YieldsList-at}
use Rattle.std.proofs.lemmas.Result.{IfOk-weaker}
use Rattle.lic_set.specs.Candidates.{number_of}
use Rattle.lic_set.specs.Matches.{IsMatch}
use Rattle.lic_set.specs.Rising.{IsRising}
use Rattle.lic_set.specs.declared.triple.Triple.{Triple}
use Rattle.lic_find.proofs.finder.candidate_numbers.Goals as goal
use Rattle.lic_find.proofs.finder.candidate_numbers.Goals.{After-drop-candidates}

-- the numbers of the candidates
collected : (c : After-drop-candidates) → IfOk c.collect.result (λ numbers. numbers.items ≡ map number_of c.in_ok-candidates.candidates.items)
collected c =
    items_from_collect c.collect.result c.collect.ensures.ran
    (YieldsList-from_map _ number_of
    (YieldsList-at c.map.ensures.source
    (YieldsList-from_slice c.in_ok-candidates.candidates.items (c.iter.ensures.rest ∙ c.deref.ensures.value))) c.map.ensures.closure (λ x r q k.
    search rules))

pub returns-clause-rising : goal.returns-clause-rising
returns-clause-rising c =
    IfOk-weaker c.collect.result (λ numbers. numbers.items ≡ map number_of c.in_ok-candidates.candidates.items)
    (λ numbers. IsRising numbers.items (length c.args.set.now))
    (λ numbers is. subst (λ ns. IsRising ns (length c.args.set.now)) (sym is) c.in_ok-candidates.ensures.rising) (collected c)

pub returns-clause-others : goal.returns-clause-others
returns-clause-others c =
    IfOk-weaker c.collect.result (λ numbers. numbers.items ≡ map number_of c.in_ok-candidates.candidates.items)
    (λ numbers. (t : Triple) → IsMatch c.args.set.now c.args.text.now.tokens t → Contains numbers.items t.template)
    (λ numbers is t m. subst (λ ns. Contains ns t.template) (sym is) (c.in_ok-candidates.ensures.others t m)) (collected c)
