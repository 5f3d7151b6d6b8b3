use Rattle.std.proofs.Common.{rules, arith, ◌≡◌, ◌≢◌, length, get_or, ap, sym, subst, ◌∙◌}
use Rattle.std.proofs.lemmas.List.Sorted.{answers_always, ranks_by}
use Rattle.std.specs.List.{AllAdjacentBelow}
use Rattle.std.specs.Ordering.{is_lt}
use Rattle.std.specs.String.{string_cmp, string_cmp_total, string_bytes}
use Rattle.lic_set.specs.Sets.{RepeatsAt, OccursTwice, pairs_known}
use Rattle.lic_set.proofs.Ordering.{IsSetOf-from_sort, OccursTwice-from_repeat}
use Rattle.lic_set.proofs.set.Set.build.Goals as goal

pub returns-in-Some-clause-twice : goal.returns-in-Some-clause-twice
returns-in-Some-clause-twice c = λ id same.
    let moved = c.sort_unstable_by.new.self.items in
    let taken = c.swap_remove-id.result in
    let repeats : RepeatsAt moved c.in-Some.k = rw c.deref.ensures.value at c.in-Some.ensures.found in
    let twice = OccursTwice-from_repeat c.args.templates.items moved c.in-Some.k taken c.sort_unstable_by.ensures.permutation repeats in
    let alike : get_or moved c.in-Some.k taken ≡ taken = sym c.swap_remove-id.ensures.value in
    let named : taken.0 ≡ id = cc in
    (omega arith, subst (λ i. OccursTwice (string_bytes i) (pairs_known c.args.templates.items)) (ap (λ p. p.0) alike ∙ named) twice)

pub returns-in_err-assemble-clause-memory : goal.returns-in_err-assemble-clause-memory
returns-in_err-assemble-clause-memory c = λ _.
    let moved = c.sort_unstable_by.new.self.items in
    let apart : AllAdjacentBelow (λ a b. string_bytes a.0 ≢ string_bytes b.0) moved (length moved) = rw c.deref.ensures.value at c.in_default.ensures.none in
    let sorted = c.sort_unstable_by.ensures.sorted (λ x y. is_lt (string_cmp x.0 y.0))
    (ranks_by string_cmp_total (λ p. p.0)) (answers_always _ _ _ (λ f a r f' k. search rules)) in
    (pairs_known moved, IsSetOf-from_sort c.args.templates.items moved c.sort_unstable_by.ensures.permutation sorted apart)

pub returns-clause-holds : goal.returns-clause-holds
returns-clause-holds c =
    let moved = c.sort_unstable_by.new.self.items in
    let apart : AllAdjacentBelow (λ a b. string_bytes a.0 ≢ string_bytes b.0) moved (length moved) = rw c.deref.ensures.value at c.in_default.ensures.none in
    let sorted = c.sort_unstable_by.ensures.sorted (λ x y. is_lt (string_cmp x.0 y.0))
    (ranks_by string_cmp_total (λ p. p.0)) (answers_always _ _ _ (λ f a r f' k. search rules)) in
    rw c.in_ok-assemble.ensures (IsSetOf-from_sort c.args.templates.items moved c.sort_unstable_by.ensures.permutation sorted apart)
