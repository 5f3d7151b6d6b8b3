-- One template more, and then all.
use Rattle.std.proofs.Common.{◌≡◌, [], ℕ, List, map, sym, subst, take, ◌∙◌}
use Rattle.std.proofs.lemmas.List.{take_all}
use Rattle.lic_norm.specs.Tokens.{TokenValue}
use Rattle.lic_literals.specs.declared.kept.Kept.{Kept}
use Rattle.lic_set.specs.Candidates.{number_of}
use Rattle.lic_set.specs.declared.triple.Triple.{Triple}
use Rattle.lic_search.specs.LeastMatches.{AddsLeast, HasLeastOf}
use Rattle.lic_search.proofs.LeastMatchLemmas.{least_none, least_more, least_all}
use Rattle.lic_search.proofs.TemplateMatches.{numbers_more}
use Rattle.lic_search.proofs.tight.least_matches.Goals as goal

pub loop-candidate-init : goal.loop-candidate-init
loop-candidate-init c =
    subst (λ (found : List Triple). HasLeastOf c.args.set.now c.args.text.now.tokens [] found) (sym c.new-found.ensures.items)
    (least_none c.args.set.now c.args.text.now.tokens)

pub loop-candidate-preserved : goal.loop-candidate-preserved
loop-candidate-preserved c =
    let items : List Kept = c.deref-candidate-items.result.now in
    let index = c.loop-candidate.candidate-index in
    let candidate : Kept = c.candidate-item.result in
    subst (λ (numbers : List ℕ). HasLeastOf c.args.set.now c.args.text.now.tokens numbers c.add_template.new.found.items)
    (sym (numbers_more items index candidate c.loop-candidate-test.true c.candidate-item.is))
    (least_more c.args.set.now c.args.text.now.tokens (map number_of (take index items)) candidate.number c.loop-candidate.found.items c.add_template.new.found.items
    c.loop-candidate.invariant
    (subst (λ (tokens : List TokenValue). AddsLeast c.args.set.now tokens candidate.number c.loop-candidate.found.items c.add_template.new.found.items) (c.new-view.ensures ∙ c.tokens.ensures) c.in_ok-add_template.ensures))

pub returns : goal.returns
returns c =
    let items : List Kept = c.deref-candidate-items.result.now in
    let index = c.loop-candidate.candidate-index in
    let all : take index items ≡ c.in_ok-candidates.candidates.items = take_all index items c.loop-candidate-test.false ∙ c.deref-candidate-items.ensures.value in
    least_all c.args.set.now c.args.text.now.tokens (map number_of c.in_ok-candidates.candidates.items) c.loop-candidate.found.items c.in_ok-candidates.ensures.others
    (subst (λ (taken : List Kept). HasLeastOf c.args.set.now c.args.text.now.tokens (map number_of taken) c.loop-candidate.found.items) all c.loop-candidate.invariant)
