-- Spans in the order in which a sweep takes them, and which of them are apart.
use Rattle.std.proofs.Common.{◌↔◌, ◌≡◌, ℕ, ◌+◌, ◌<◌, ◌≤◌, zero, suc, Bool, true, false, cond, ◌⊎◌, List, [], ◌∷◌, length, get_or, refl, sym, ◌∙◌, ap, subst, inl, inr, ⊎_elim, arith, add-one}
use Rattle.std.proofs.Math.Nat.{eq-or-lt_of_le}
use Rattle.std.proofs.lemmas.Bool.{false≢true}
use Rattle.std.proofs.lemmas.Bool.Decides.{nat_tests}
use Rattle.std.proofs.lemmas.Cmp.{ranked, by_ranked, nat_cmp_total, on_total, then_total}
use Rattle.std.proofs.lemmas.List.{get_or_default}
use Rattle.std.proofs.lemmas.List.Elements.{All-contains, All-tail, Contains-get_or}
use Rattle.std.proofs.lemmas.List.Filters.{All-dedup}
use Rattle.std.proofs.lemmas.List.Kept.{AllPairs-cons, Contains-from_dedup}
use Rattle.std.proofs.lemmas.List.Sorted.{ranks_by, sorted_far, Contains-permutation, IsPermutation-sym}
use Rattle.std.specs.Cmp.{IsTotalOrder}
use Rattle.std.specs.List.{All, AllAdjacentBelow, AllPairs, Contains, IsAllAdjacentAnswer, dedup, dedup_from}
use Rattle.std.specs.List.Sorted.{IsPermutation, IsSortedBy}
use Rattle.std.specs.Ordering.{nat_cmp, is_lt, ordering_then}
use Rattle.std.specs.declared.cmp.Ordering.{Ordering}
use Rattle.std.specs.declared.cmp.Ordering.TheVariants.{Less, Equal, Greater}
use Rattle.lic_spans.specs.declared.span.SpanKind.{SpanKind}
use Rattle.lic_spans.specs.declared.span.SpanKind.TheVariants.{End}
use Rattle.lic_spans.specs.declared.span.PlaceSpan.{PlaceSpan}
use Rattle.lic_spans.specs.Spans.{Holds, LiesBefore, AreApart, BeginsBefore, is_covered_by, is_before, rank}
use Rattle.lic_spans.specs.Sweeps.{HasLess}
use Rattle.lic_spans.proofs.Members.{Contains-head, Contains-tail, Contains-cons_cases, Contains-nil}
use Rattle.lic_spans.proofs.Ranks.{rank-same}

-- what holds of the members of a list holds of those of another that are all among them
pub All-among : {X : Type 0} (P : X → Type 0) (xs ys : List X) → ((x : X) → Contains ys x → Contains xs x) → All P xs → All P ys
All-among P xs ys among all = λ k d low. All-contains P xs (get_or ys k d) all (among (get_or ys k d) (Contains-get_or ys k d low))

module _ {X : Type 0} (R : X → X → Type 0) where
  pub AllPairs-head : (x : X) (xs : List X) → AllPairs R (x ∷ xs) → All (R x) xs
  AllPairs-head x xs pairs = λ k d low. pairs 0 (suc k) d (omega arith) (omega arith)

  pub AllPairs-tail : (x : X) (xs : List X) → AllPairs R (x ∷ xs) → AllPairs R xs
  AllPairs-tail x xs pairs = λ i j d before low. pairs (suc i) (suc j) d (omega arith) (omega arith)

  -- what holds of all pairs holds of those that are kept
  AllPairs-dedup_from : (same : X → X → Bool) (k : X) (xs : List X) → AllPairs R (k ∷ xs) → AllPairs R (dedup_from same k xs)
  AllPairs-dedup_from same k [] pairs = pairs
  AllPairs-dedup_from same k (x ∷ xs) pairs =
      let later = AllPairs-tail k (x ∷ xs) pairs in
      let first = AllPairs-head k (x ∷ xs) pairs in
      (elim (same x k) as (λ b. AllPairs R (cond b (dedup_from same k xs) (k ∷ dedup_from same x xs))) [
        | true ↦ AllPairs-dedup_from same k xs (AllPairs-cons R k xs (All-tail (R k) x xs first) (AllPairs-tail x xs later))
        | false ↦ AllPairs-cons R k (dedup_from same x xs) (All-dedup same (R k) (x ∷ xs) first) (AllPairs-dedup_from same x xs later)
      ])

  pub AllPairs-dedup : (same : X → X → Bool) (xs : List X) → AllPairs R xs → AllPairs R (dedup same xs)
  AllPairs-dedup same [] pairs = pairs
  AllPairs-dedup same (x ∷ xs) pairs = AllPairs-dedup_from same x xs pairs

  -- what holds of neighbours holds of all pairs, if it passes on by way of members
  module _ (P : X → Type 0) (through : (x y z : X) → P y → R x y → R y z → R x z) (xs : List X) (all : All P xs) (next : AllAdjacentBelow R xs (length xs)) where
    next_at : (j : ℕ) (d : X) → suc j < length xs → R (get_or xs j d) (get_or xs (suc j) d)
    next_at j d low = subst (λ n. R (get_or xs j d) (get_or xs n d)) (add-one j) (next j d (omega arith))

    far : (j i : ℕ) (d : X) → i < j → j < length xs → R (get_or xs i d) (get_or xs j d)
    far zero i d before low = absurd (omega arith)
    far (suc j) i d before low =
        ⊎_elim (λ (e : i ≡ j). subst (λ n. R (get_or xs n d) (get_or xs (suc j) d)) (sym e) (next_at j d low))
        (λ between. through (get_or xs i d) (get_or xs j d) (get_or xs (suc j) d) (all j d (omega arith)) (far j i d between (omega arith)) (next_at j d low))
        (eq-or-lt_of_le (omega arith))

    pub AllPairs-from_next : AllPairs R xs
    AllPairs-from_next = λ i j d before low. far j i d before low

-- by kind, then by low place, then by last token
abbrev pub by_start : PlaceSpan → PlaceSpan → Ordering
by_start x y = ordering_then (ordering_then (nat_cmp (rank x.kind) (rank y.kind)) (nat_cmp x.low y.low)) (nat_cmp x.last y.last)

by_start-total : IsTotalOrder by_start
by_start-total = then_total (then_total (on_total (λ s. rank s.kind) nat_cmp_total) (on_total (λ s. s.low) nat_cmp_total)) (on_total (λ s. s.last) nat_cmp_total)

pub then_not_less : (o p : Ordering) → is_lt (ordering_then o p) ≡ false → is_lt o ≡ false
then_not_less Less p h = h
then_not_less Equal p h = refl
then_not_less Greater p h = refl

-- what is not less by a number and then by more
pub not_less : (a b : ℕ) (o : Ordering) → is_lt (ordering_then (nat_cmp a b) o) ≡ false → (b < a) ⊎ ((a ≡ b) × (is_lt o ≡ false))
not_less a b o h =
    by_ranked (a < b) (a ≡ b) (b < a) (nat_cmp a b) (ranked a b (nat_cmp a b) refl)
    (λ e low. let less : true ≡ false = subst (λ p. is_lt (ordering_then p o) ≡ false) e h in absurd (cc))
    (λ e same. inr (same, subst (λ p. is_lt (ordering_then p o) ≡ false) e h))
    (λ e high. inl high)

pub not_less_last : (a b : ℕ) → is_lt (nat_cmp a b) ≡ false → b ≤ a
not_less_last a b h =
    by_ranked (a < b) (a ≡ b) (b < a) (nat_cmp a b) (ranked a b (nat_cmp a b) refl)
    (λ e low. let less : true ≡ false = subst (λ p. is_lt p ≡ false) e h in absurd (cc))
    (λ e same. omega arith)
    (λ e high. omega arith)

BeginsBefore-by_start : (s t : PlaceSpan) → is_lt (by_start t s) ≡ false → BeginsBefore s t
BeginsBefore-by_start s t h =
    ⊎_elim
    (λ (up : rank s.kind < rank t.kind). record {
      kinds = omega arith;
      places = λ same. let e : rank s.kind ≡ rank t.kind = ap rank same in absurd (omega arith);
    })
    (λ (e, more).
    let low : s.low ≤ t.low = not_less_last t.low s.low more in
    let same : rank t.kind ≡ rank s.kind = e in
    record { kinds = omega arith; places = λ _. low })
    (not_less (rank t.kind) (rank s.kind) (nat_cmp t.low s.low)
    (then_not_less (ordering_then (nat_cmp (rank t.kind) (rank s.kind)) (nat_cmp t.low s.low)) (nat_cmp t.last s.last) h))

pub BeginsBefore-sorted : (xs : List PlaceSpan) → IsSortedBy (λ x y. is_lt (by_start x y)) xs → AllPairs BeginsBefore xs
BeginsBefore-sorted xs sorted = λ i j d before low.
    BeginsBefore-by_start (get_or xs i d) (get_or xs j d)
    (sorted_far (λ x y. is_lt (by_start x y)) (ranks_by by_start-total (λ x. x)) xs sorted i j d (omega arith) low)

-- the span has the kind of the other, all its places, and a last token that is no greater
pub record IsCovered (span by : PlaceSpan) : Type 0 where
  pub kind : by.kind ≡ span.kind
  pub from : by.low ≤ span.low
  pub to : span.high ≤ by.high
  pub last : by.last ≤ span.last

IsCovered-itself : (s : PlaceSpan) → IsCovered s s
IsCovered-itself s = record { kind = refl; from = omega arith; to = omega arith; last = omega arith }

IsCovered-through : (s t u : PlaceSpan) → IsCovered s t → IsCovered t u → IsCovered s u
IsCovered-through s t u h g =
    let from : t.low ≤ s.low = h.from in
    let to : s.high ≤ t.high = h.to in
    let last : t.last ≤ s.last = h.last in
    let from' : u.low ≤ t.low = g.from in
    let to' : t.high ≤ u.high = g.to in
    let last' : u.last ≤ t.last = g.last in
    record { kind = g.kind ∙ h.kind; from = omega arith; to = omega arith; last = omega arith }

test-IsCovered : (s t : PlaceSpan) → is_covered_by s t ≡ true → IsCovered s t
test-IsCovered s t h =
    let kind : rank t.kind ≡ rank s.kind = grind (arith, nat_tests) in
    record { kind = rank-same t.kind s.kind kind; from = grind (arith, nat_tests); to = grind (arith, nat_tests); last = grind (arith, nat_tests) }

-- some member of the list has all places of the span
pub record IsCoveredAmong (xs : List PlaceSpan) (s : PlaceSpan) : Type 0 where
  pub by : PlaceSpan
  pub among : Contains xs by
  pub covered : IsCovered s by

IsCoveredAmong-tail : (x : PlaceSpan) (xs : List PlaceSpan) (s : PlaceSpan) → IsCoveredAmong xs s → IsCoveredAmong (x ∷ xs) s
IsCoveredAmong-tail x xs s h = record { by = h.by; among = Contains-tail x xs h.by h.among; covered = h.covered }

covered_by_dedup_from : (k : PlaceSpan) (xs : List PlaceSpan) (s : PlaceSpan) → Contains (k ∷ xs) s → IsCoveredAmong (dedup_from is_covered_by k xs) s
covered_by_dedup_from k [] s h = record { by = s; among = h; covered = IsCovered-itself s }
covered_by_dedup_from k (x ∷ xs) s h =
    (elim (is_covered_by x k) as (λ b. is_covered_by x k ≡ b → IsCoveredAmong (cond b (dedup_from is_covered_by k xs) (k ∷ dedup_from is_covered_by x xs)) s) [
      | true ↦ λ goes.
          ⊎_elim (λ (e : k ≡ s). covered_by_dedup_from k xs s (subst (Contains (k ∷ xs)) e (Contains-head k xs)))
          (λ later_ones. ⊎_elim
          (λ (e : x ≡ s). let by = covered_by_dedup_from k xs k (Contains-head k xs) in
          record { by = by.by; among = by.among; covered = IsCovered-through s k by.by (subst (λ y. IsCovered y k) e (test-IsCovered x k goes)) by.covered })
          (λ later. covered_by_dedup_from k xs s (Contains-tail k xs s later)) (Contains-cons_cases x xs s later_ones))
          (Contains-cons_cases k (x ∷ xs) s h)
      | false ↦ λ stays.
          ⊎_elim (λ (e : k ≡ s). record { by = k; among = Contains-head k (dedup_from is_covered_by x xs); covered = subst (λ y. IsCovered y k) e (IsCovered-itself k) })
          (λ later_ones. IsCoveredAmong-tail k (dedup_from is_covered_by x xs) s (covered_by_dedup_from x xs s later_ones))
          (Contains-cons_cases k (x ∷ xs) s h)
    ]) refl

covered_by_dedup : (xs : List PlaceSpan) (s : PlaceSpan) → Contains xs s → IsCoveredAmong (dedup is_covered_by xs) s
covered_by_dedup [] s h = absurd (Contains-nil s h)
covered_by_dedup (x ∷ xs) s h = covered_by_dedup_from x xs s h

-- what a list holds, what is kept of its spans in another order holds with a last token that is no greater
pub HasLess-kept_sorted : (old sorted : List PlaceSpan) → IsPermutation old sorted → (k : SpanKind) (p l : ℕ) → Holds old k p l → HasLess (dedup is_covered_by sorted) k p l
HasLess-kept_sorted old sorted moved k p l h =
    let by = covered_by_dedup sorted h.span (Contains-permutation old sorted h.span moved h.among) in
    let low : by.by.low ≤ h.span.low = by.covered.from in
    let high : h.span.high ≤ by.by.high = by.covered.to in
    let less : by.by.last ≤ h.span.last = by.covered.last in
    let from : h.span.low ≤ p = h.from in
    let to : p ≤ h.span.high = h.to in
    let last : h.span.last ≡ l = h.last_is in
    (by.by.last, omega arith, record { span = by.by; among = by.among; kind_is = by.covered.kind ∙ h.kind_is; from = omega arith; to = omega arith; last_is = refl })

pub Contains-kept_sorted : (old sorted : List PlaceSpan) → IsPermutation old sorted → (s : PlaceSpan) → Contains (dedup is_covered_by sorted) s → Contains old s
Contains-kept_sorted old sorted moved s h =
    Contains-permutation sorted old s (IsPermutation-sym old sorted moved) (Contains-from_dedup is_covered_by sorted s h)

-- what lies before a span that lies before another lies before that one
LiesBefore-through : (x y z : PlaceSpan) → y.low ≤ y.high → LiesBefore y.kind y.low x → LiesBefore z.kind z.low y → LiesBefore z.kind z.low x
LiesBefore-through x y z order h g =
    let first : rank x.kind ≤ rank y.kind = h.kinds in
    let second : rank y.kind ≤ rank z.kind = g.kinds in
    record {
      kinds = omega arith;
      places = λ same.
          let e : rank x.kind ≡ rank z.kind = ap rank same in
          let low : x.high < y.low = h.places (rank-same x.kind y.kind (omega arith)) in
          let high : y.high < z.low = g.places (rank-same y.kind z.kind (omega arith)) in
          omega arith;
    }

test-LiesBefore : (x y : PlaceSpan) → is_before x y ≡ true → LiesBefore y.kind y.low x
test-LiesBefore x y h = record {
  kinds = grind (arith, nat_tests);
  places = λ same. let e : rank x.kind ≡ rank y.kind = ap rank same in grind (arith, nat_tests);
}

LiesBefore-test : (x y : PlaceSpan) → LiesBefore y.kind y.low x → is_before x y ≡ true
LiesBefore-test x y h =
    ⊎_elim
    (λ (e : rank x.kind ≡ rank y.kind). let low : x.high < y.low = h.places (rank-same x.kind y.kind e) in grind (arith, nat_tests))
    (λ (up : rank x.kind < rank y.kind). grind (arith, nat_tests))
    (eq-or-lt_of_le h.kinds)

-- spans are apart just where each lies before the next
pub AreApart-answer : (xs : List PlaceSpan) (r : Bool) → All (λ s. s.low ≤ s.high) xs → IsAllAdjacentAnswer (λ x y b. b ≡ is_before x y) xs r → (r ≡ true) ↔ AreApart xs
AreApart-answer xs true ordered answer = (
  λ e. AllPairs-from_next (λ before span. LiesBefore span.kind span.low before) (λ s. s.low ≤ s.high) LiesBefore-through xs ordered
      (λ k d low. test-LiesBefore (get_or xs k d) (get_or xs (k + 1) d) (sym (answer k d low))),
  λ apart. refl,
)
AreApart-answer xs false ordered (k, low, fails) = (
  λ e. absurd (false≢true e),
  λ apart.
      let d : PlaceSpan = record { low = 0; high = 0; last = 0; kind = End } in
      fails d ∙ LiesBefore-test (get_or xs k d) (get_or xs (k + 1) d) (apart k (k + 1) d (omega arith) low),
)

-- what holds of all pairs of a list holds of one and each later one, whatever each is read with
pub AllPairs-next : (R : PlaceSpan → PlaceSpan → Type 0) (xs : List PlaceSpan) → AllPairs R xs → (i : ℕ) (e : PlaceSpan) → i < length xs → (j : ℕ) (d : PlaceSpan) → i + 1 ≤ j → j < length xs →
    R (get_or xs i e) (get_or xs j d)
AllPairs-next R xs pairs i e low j d up within =
    subst (λ x. R x (get_or xs j d)) (get_or_default xs i d e low) (pairs i j d (omega arith) within)
