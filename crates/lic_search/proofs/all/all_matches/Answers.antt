-- One template more, and then all.
use Rattle.std.proofs.Common.{◌≡◌, ◌+◌, ◌≤◌, ℕ, List, ap, arith, get_or, length, map, sym, subst, take, ◌∙◌}
use Rattle.std.specs.Prelude.{Contains}
use Rattle.std.proofs.lemmas.List.{take_all}
use Rattle.std.proofs.lemmas.List.Elements.{Contains-get_or}
use Rattle.lic_norm.specs.Tokens.{TokenValue}
use Rattle.lic_literals.specs.declared.kept.Kept.{Kept}
use Rattle.lic_set.specs.Candidates.{number_of}
use Rattle.lic_set.specs.Rising.{IsRising}
use Rattle.lic_search.specs.AllMatches.{AddsTemplate}
use Rattle.lic_search.proofs.AllMatchLemmas.{HasAllOf, all_more, all_none}
use Rattle.lic_search.proofs.TemplateMatches.{numbers_more, numbers_rise}
use Rattle.lic_search.proofs.all.all_matches.Goals as goal
use Rattle.lic_search.proofs.all.all_matches.Goals.{After-drop-candidates-2}

pub loop-candidate-init : goal.loop-candidate-init
loop-candidate-init c = record {
  has = all_none c.args.set.now c.args.text.now.tokens c.new.result.items c.new-2.result.items c.new.ensures.items c.new-2.ensures.items;
  few = let none : length c.new.result.items ≡ 0 = ap length c.new.ensures.items in omega arith;
}

pub loop-candidate-preserved : goal.loop-candidate-preserved
loop-candidate-preserved c =
    let set = c.args.set.now in
    let tokens = c.args.text.now.tokens in
    let items : List Kept = c.deref-candidate-items.result.now in
    let index = c.loop-candidate.candidate-index in
    let candidate : Kept = c.candidate-item.result in
    let old = c.loop-candidate.found in
    let new = c.add_template.new.found in
    let invariant = c.loop-candidate.invariant in
    let rising = c.in_ok-candidates.ensures.rising in
    let all : items ≡ c.in_ok-candidates.candidates.items = c.deref-candidate-items.ensures.value in
    let same : c.new-view.result ≡ tokens = c.new-view.ensures ∙ c.tokens.ensures in
    let order = numbers_rise items index candidate (length set) c.loop-candidate-test.true c.candidate-item.is (subst (λ (x : List Kept). IsRising (map number_of x) (length set)) (sym all) rising) in
    record {
      has =
          subst (λ (numbers : List ℕ). HasAllOf set tokens numbers new.bundles.items new.left.items)
          (sym (numbers_more items index candidate c.loop-candidate-test.true c.candidate-item.is))
          (all_more set tokens (map number_of (take index items)) candidate.number old new invariant.has order.0 order.1
          (subst (λ (tokens : List TokenValue). AddsTemplate set tokens candidate.number old new) same c.in_ok-add_template.ensures.adds));
      few = subst (λ (tokens : List TokenValue). length new.bundles.items ≤ length tokens + 262144) same
          (c.in_ok-add_template.ensures.few
          (subst (λ (tokens : List TokenValue). length old.bundles.items ≤ length tokens + 262144) (sym same) invariant.few));
    }

pub returns-clause-complete : goal.returns-clause-complete
returns-clause-complete c = λ t m.
    let items : List Kept = c.deref-candidate-items.result.now in
    let index = c.loop-candidate.candidate-index in
    let all : take index items ≡ c.in_ok-candidates.candidates.items = take_all index items c.loop-candidate-test.false ∙ c.deref-candidate-items.ensures.value in
    c.loop-candidate.invariant.has.complete t m
    (subst (λ (x : List Kept). Contains (map number_of x) t.template) (sym all) (c.in_ok-candidates.ensures.others t m))

pub returns-clause-others : goal.returns-clause-others
returns-clause-others c = λ k d low left.
    c.loop-candidate.invariant.has.others (get_or c.loop-candidate.found.bundles.items k d) (Contains-get_or c.loop-candidate.found.bundles.items k d low) left
