-- What is known of the spans is known of them in their order.
use Rattle.std.proofs.Common.{◌≤◌, List, rules, subst, sym}
use Rattle.std.proofs.lemmas.Fn.{always_returns_same}
use Rattle.std.proofs.lemmas.List.Sorted.{Contains-permutation, IsPermutation-sym}
use Rattle.std.proofs.lemmas.Result.{IfOk-weaker}
use Rattle.std.specs.List.{All, AllPairs}
use Rattle.std.specs.List.Sorted.{IsSortedBy}
use Rattle.std.specs.Ordering.{is_lt}
use Rattle.lic_spans.specs.declared.span.PlaceSpan.{PlaceSpan}
use Rattle.lic_spans.specs.Spans.{Holds, StartsBefore, rank}
use Rattle.lic_spans.proofs.Lasts.{StartsBefore-sorted, by_last}
use Rattle.lic_spans.proofs.Members.{Holds-among}
use Rattle.lic_spans.proofs.Sorting.{All-among}
use Rattle.lic_spans.proofs.each.with_each_last.Goals as goal

pub joined-requires-clause-ordered : goal.joined-requires-clause-ordered
joined-requires-clause-ordered c =
    let old : List PlaceSpan = c.args.spans.items in
    let sorted : List PlaceSpan = c.sort_by_key.new.self.items in
    subst (All (λ s. s.low ≤ s.high)) (sym c.deref.ensures.value)
    (All-among (λ s. s.low ≤ s.high) old sorted
    (λ s among. Contains-permutation sorted old s (IsPermutation-sym old sorted c.sort_by_key.ensures.permutation) among) c.requires)

pub joined-requires-clause-sorted : goal.joined-requires-clause-sorted
joined-requires-clause-sorted c =
    let sorted : List PlaceSpan = c.sort_by_key.new.self.items in
    let order : IsSortedBy (λ x y. is_lt (by_last x y)) sorted =
    c.in_ok-sort_by_key.ensures.sorted (λ t. (rank t.kind, t.last, t.low)) (always_returns_same _ _ _ (λ a r f' k. search rules)) in
    subst (AllPairs StartsBefore) (sym c.deref.ensures.value) (StartsBefore-sorted sorted order)

pub returns-clause-same : goal.returns-clause-same
returns-clause-same c =
    let old : List PlaceSpan = c.args.spans.items in
    let sorted : List PlaceSpan = c.sort_by_key.new.self.items in
    let moved = c.sort_by_key.ensures.permutation in
    IfOk-weaker c.joined.result _ _
    (λ each h. λ k p t. (
      λ new. Holds-among sorted old (λ s among. Contains-permutation sorted old s (IsPermutation-sym old sorted moved) among) k p t
          (subst (λ xs. Holds xs k p t) c.deref.ensures.value ((h k p t).0 new)),
      λ held. (h k p t).1 (subst (λ xs. Holds xs k p t) (sym c.deref.ensures.value)
          (Holds-among old sorted (λ s among. Contains-permutation old sorted s moved among) k p t held)),
    )) c.joined.ensures.same
