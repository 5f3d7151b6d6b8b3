-- The number is between those that are less and those that are greater.
use Rattle.std.proofs.Common.{ℕ, ◌<◌, ◌≤◌, length, get_or, sym, subst}
use Rattle.std.specs.Prelude.{Err}
use Rattle.std.specs.List.{Contains}
use Rattle.std.specs.List.Sorted.{IsBinarySearchResult, IsStrictlyIncreasing}
use Rattle.std.specs.Ordering.{nat_cmp}
use Rattle.std.proofs.lemmas.List.Sorted.{searched}
use Rattle.lic_literals.proofs.Rising.{Contains-insert_kept, IsStrictlyIncreasing-insert, le_later}
use Rattle.lic_literals.proofs.hits.insert_before.Goals as goal

pub returns-in_ok-insert-clause-rising : goal.returns-in_ok-insert-clause-rising
returns-in_ok-insert-clause-rising c =
    let xs = c.args.numbers.now.items in
    let x = c.args.number in
    let at = c.in-Err.at in
    let found : IsBinarySearchResult (λ y. nat_cmp y x) xs (Err at) =
    subst (λ ys. IsBinarySearchResult (λ y. nat_cmp y x) ys (Err at)) c.deref.ensures.value c.in-Err.ensures.position in
    let offset : (at ≤ length xs) × ((k : ℕ) → k < at → get_or xs k 0 < x) × ((k : ℕ) → at ≤ k → k < length xs → x < get_or xs k 0) =
    searched xs x (Err at) found (le_later xs c.requires) in
    subst IsStrictlyIncreasing (sym c.in_ok-insert.ensures.items) (IsStrictlyIncreasing-insert xs at x offset.0 c.requires offset.1 offset.2)

pub returns-in_ok-insert-clause-kept : goal.returns-in_ok-insert-clause-kept
returns-in_ok-insert-clause-kept c = λ other inside.
    let xs = c.args.numbers.now.items in
    let x = c.args.number in
    let at = c.in-Err.at in
    let found : IsBinarySearchResult (λ y. nat_cmp y x) xs (Err at) =
    subst (λ ys. IsBinarySearchResult (λ y. nat_cmp y x) ys (Err at)) c.deref.ensures.value c.in-Err.ensures.position in
    let offset : (at ≤ length xs) × ((k : ℕ) → k < at → get_or xs k 0 < x) × ((k : ℕ) → at ≤ k → k < length xs → x < get_or xs k 0) =
    searched xs x (Err at) found (le_later xs c.requires) in
    subst (λ ys. Contains ys other) (sym c.in_ok-insert.ensures.items) (Contains-insert_kept xs at x offset.0 other inside)
