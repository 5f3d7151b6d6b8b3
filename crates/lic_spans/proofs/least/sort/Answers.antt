-- What is dropped after the sort is covered by what is kept.
use Rattle.std.proofs.Common.{◌≡◌, List, subst, sym, rules}
use Rattle.std.proofs.lemmas.Fn.{dedup_same, always_returns_same}
use Rattle.std.specs.List.{AllPairs, Contains, dedup}
use Rattle.std.specs.List.Sorted.{IsSortedBy}
use Rattle.std.specs.Ordering.{is_lt}
use Rattle.lic_spans.specs.declared.span.PlaceSpan.{PlaceSpan}
use Rattle.lic_spans.specs.Spans.{BeginsBefore, is_covered_by, rank}
use Rattle.lic_spans.specs.Sweeps.{HasLess}
use Rattle.lic_spans.proofs.Sorting.{by_start, AllPairs-dedup, BeginsBefore-sorted, HasLess-kept_sorted, Contains-kept_sorted}
use Rattle.lic_spans.proofs.least.sort.Goals as goal

kept : (c : goal.After-dedup_by) → c.dedup_by.new.self.items ≡ dedup is_covered_by c.sort_by_key.new.self.items
kept c = dedup_same _ is_covered_by _ (λ x y b f' x' y' k. search rules) _ _ c.dedup_by.ensures.filtered

pub returns-clause-sorted : goal.returns-clause-sorted
returns-clause-sorted c =
    let sorted : List PlaceSpan = c.sort_by_key.new.self.items in
    let order : IsSortedBy (λ x y. is_lt (by_start x y)) sorted =
    c.in_ok-sort_by_key.ensures.sorted (λ t. (rank t.kind, t.low, t.last)) (always_returns_same _ _ _ (λ a r f' k. search rules)) in
    subst (AllPairs BeginsBefore) (sym (kept c)) (AllPairs-dedup BeginsBefore is_covered_by sorted (BeginsBefore-sorted sorted order))

pub returns-clause-sound : goal.returns-clause-sound
returns-clause-sound c = λ s h.
    Contains-kept_sorted c.args.spans.now.items c.sort_by_key.new.self.items c.sort_by_key.ensures.permutation s
    (subst (λ xs. Contains xs s) (kept c) h)

pub returns-clause-least : goal.returns-clause-least
returns-clause-least c = λ k p l h.
    subst (λ xs. HasLess xs k p l) (sym (kept c))
    (HasLess-kept_sorted c.args.spans.now.items c.sort_by_key.new.self.items c.sort_by_key.ensures.permutation k p l h)
