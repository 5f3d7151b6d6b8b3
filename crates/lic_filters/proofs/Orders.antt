-- What sorted lists say of their members, in numbers.
use Rattle.std.proofs.Common.{◌≡◌, ℕ, ◌<◌, ◌≤◌, ◌⊎◌, false, true, List, refl, subst, inl, inr, ⊎_elim, arith}
use Rattle.std.proofs.lemmas.Cmp.{ranked, by_ranked, nat_cmp_total, on_total, then_total, back_total}
use Rattle.std.proofs.lemmas.List.Sorted.{ranks_by, sorted_far}
use Rattle.std.specs.Cmp.{IsTotalOrder}
use Rattle.std.specs.List.{AllPairs}
use Rattle.std.specs.List.Sorted.{IsSortedBy}
use Rattle.std.specs.Ordering.{nat_cmp, is_lt, ordering_then}
use Rattle.std.specs.declared.cmp.Ordering.{Ordering}
use Rattle.std.specs.declared.cmp.Ordering.TheVariants.{Less, Equal, Greater}
use Rattle.lic_set.specs.declared.triple.Triple.{Triple}

then_assoc : (o p q : Ordering) → ordering_then (ordering_then o p) q ≡ ordering_then o (ordering_then p q)
then_assoc Less p q = refl
then_assoc Equal p q = refl
then_assoc Greater p q = refl

-- what is not less by a number and then by more
not_less : (a b : ℕ) (o : Ordering) → is_lt (ordering_then (nat_cmp a b) o) ≡ false → (b < a) ⊎ ((a ≡ b) × (is_lt o ≡ false))
not_less a b o h =
    by_ranked (a < b) (a ≡ b) (b < a) (nat_cmp a b) (ranked a b (nat_cmp a b) refl)
    (λ e low. let less : true ≡ false = subst (λ p. is_lt (ordering_then p o) ≡ false) e h in absurd (cc))
    (λ e same. inr (same, subst (λ p. is_lt (ordering_then p o) ≡ false) e h))
    (λ e high. inl high)

not_less_last : (a b : ℕ) → is_lt (nat_cmp a b) ≡ false → b ≤ a
not_less_last a b h =
    by_ranked (a < b) (a ≡ b) (b < a) (nat_cmp a b) (ranked a b (nat_cmp a b) refl)
    (λ e low. let less : true ≡ false = subst (λ p. is_lt p ≡ false) e h in absurd (cc))
    (λ e same. omega arith)
    (λ e high. omega arith)

-- each element of a sorted list is not above any after it
pub AllPairs-from_sorted : {X : Type 0} (R : X → X → Ordering) → IsTotalOrder R → (xs : List X)
    → IsSortedBy (λ x y. is_lt (R x y)) xs → AllPairs (λ x y. is_lt (R y x) ≡ false) xs
AllPairs-from_sorted R total xs sorted = λ i j d before low.
    sorted_far (λ x y. is_lt (R x y)) (ranks_by total (λ x. x)) xs sorted i j d (omega arith) low

-- by template, then by first token from the greatest on, then by last token
abbrev pub by_template : Triple → Triple → Ordering
by_template s t = ordering_then (ordering_then (nat_cmp s.template t.template) (nat_cmp t.first s.first)) (nat_cmp s.last t.last)

pub by_template-total : IsTotalOrder by_template
by_template-total =
    then_total (then_total (on_total (λ t. t.template) nat_cmp_total)
    (on_total (λ t. t.first) (back_total nat_cmp_total))) (on_total (λ t. t.last) nat_cmp_total)

-- the order has s before t, or does not tell them apart
pub record IsAhead (s t : Triple) : Type 0 where
  pub template : s.template ≤ t.template
  pub first : s.template ≡ t.template → t.first ≤ s.first
  pub last : s.template ≡ t.template → s.first ≡ t.first → s.last ≤ t.last

pub IsAhead-by_template : (s t : Triple) → is_lt (by_template t s) ≡ false → IsAhead s t
IsAhead-by_template s t h =
    let by_first : Ordering = ordering_then (nat_cmp s.first t.first) (nat_cmp t.last s.last) in
    let same = then_assoc (nat_cmp t.template s.template) (nat_cmp s.first t.first) (nat_cmp t.last s.last) in
    ⊎_elim
    (λ (low : s.template < t.template). record { template = omega arith; first = λ e. absurd (omega arith); last = λ e. absurd (omega arith) })
    (λ (e, more).
    ⊎_elim
    (λ (high : t.first < s.first). record { template = omega arith; first = λ _. omega arith; last = λ _ f. absurd (omega arith) })
    (λ (f, most).
    let low : s.last ≤ t.last = not_less_last t.last s.last most in
    record { template = omega arith; first = λ _. omega arith; last = λ _ _. low })
    (not_less s.first t.first (nat_cmp t.last s.last) more))
    (not_less t.template s.template by_first (subst (λ o. is_lt o ≡ false) same h))

-- by first token, then by last token from the greatest on
abbrev pub by_range : Triple → Triple → Ordering
by_range s t = ordering_then (nat_cmp s.first t.first) (nat_cmp t.last s.last)

pub by_range-total : IsTotalOrder by_range
by_range-total = then_total (on_total (λ t. t.first) nat_cmp_total) (on_total (λ t. t.last) (back_total nat_cmp_total))

-- the same of that order
pub record IsBefore (s t : Triple) : Type 0 where
  pub first : s.first ≤ t.first
  pub last : s.first ≡ t.first → t.last ≤ s.last

pub IsBefore-by_range : (s t : Triple) → is_lt (by_range t s) ≡ false → IsBefore s t
IsBefore-by_range s t h =
    ⊎_elim
    (λ (low : s.first < t.first). record { first = omega arith; last = λ e. absurd (omega arith) })
    (λ (e, more).
    let high : t.last ≤ s.last = not_less_last s.last t.last more in
    record { first = omega arith; last = λ _. high })
    (not_less t.first s.first (nat_cmp s.last t.last) h)
