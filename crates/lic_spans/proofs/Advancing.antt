-- A sweep continues from place to place: an active span covers what it reaches, and leaves.
use Rattle.std.proofs.Common.{◌≡◌, ℕ, ◌+◌, ◌<◌, ◌≤◌, max, false, true, ◌⊎◌, List, ◌∷◌, refl, sym, ap, subst, inl, inr, ⊎_elim, arith}
use Rattle.std.proofs.lemmas.Bool.{cases_lt}
use Rattle.std.proofs.lemmas.Cmp.{ranked, by_ranked}
use Rattle.std.proofs.lemmas.List.Elements.{All-contains, All-from_recursion}
use Rattle.std.proofs.lemmas.List.Sorted.{IsPermutation-sym, Contains-permutation}
use Rattle.std.specs.BinaryHeap.{IsUpperBound}
use Rattle.std.specs.List.{All, Contains}
use Rattle.std.specs.List.Sorted.{IsPermutation}
use Rattle.std.specs.Ordering.{nat_cmp, is_lt, ordering_then}
use Rattle.std.specs.declared.cmp.Ordering.{Ordering}
use Rattle.lic_spans.specs.declared.span.SpanKind.{SpanKind}
use Rattle.lic_spans.specs.declared.span.PlaceSpan.{PlaceSpan}
use Rattle.lic_spans.specs.Spans.{FitsKind, Holds, gap_of}
use Rattle.lic_spans.specs.Sweeps.{Active, active_cmp, Reaches, HasLess, IsSettled, Covers, Advances}
use Rattle.lic_spans.proofs.Members.{Contains-tail, Contains-cons_cases, HasLess-kept}
use Rattle.lic_spans.proofs.Heaps.{IsFirst, IsFirst-among}
use Rattle.lic_spans.proofs.Settling.{IsSettled-later}

-- what is not less by a number and then by more is not less by the number
not_less : (a b : ℕ) (o : Ordering) → is_lt (ordering_then (nat_cmp a b) o) ≡ false → b ≤ a
not_less a b o h =
    by_ranked (a < b) (a ≡ b) (b < a) (nat_cmp a b) (ranked a b (nat_cmp a b) refl)
    (λ e low. let less : true ≡ false = subst (λ p. is_lt (ordering_then p o) ≡ false) e h in absurd (cc))
    (λ e same. omega arith)
    (λ e high. omega arith)

-- the first of the heap has the least last token
pub least_first : (x : Active) (active : List Active) → IsUpperBound active_cmp x active → (y : Active) → Contains active y → x.0.0 ≤ y.0.0
least_first x active bound y among =
    not_less y.0.0 x.0.0 (nat_cmp x.1 y.1)
    (All-contains (λ z. is_lt (active_cmp x z) ≡ false) active y (All-from_recursion (λ z. is_lt (active_cmp x z) ≡ false) active bound) among)

module _ (kind : SpanKind) (from : ℕ) (first : List Active) (old : List PlaceSpan) (at : ℕ) (active : List Active) (spans : List PlaceSpan)
    (so_far : Advances kind from first old at active spans) where
  -- none is active: the places up to any other are done
  pub Advances-none : (to : ℕ) → at ≤ to → ((item : Active) → Contains active item → ⊥) → Advances kind from first old to active spans
  Advances-none to onward none = record {
    onward = let before : from ≤ at = so_far.onward in omega arith;
    kept = so_far.kept;
    sound = so_far.sound;
    least = λ p l low h.
        ⊎_elim (λ less. inl less) (λ (past, reaches). absurd (none reaches.item reaches.among)) (so_far.least p l low h);
    actives = so_far.actives;
    settled = λ h. IsSettled-later spans kind at to onward (so_far.settled h);
    fits = so_far.fits;
  }

  -- the first active span covers the places to before `stop`, and stays or leaves
  module _ (x : Active) (among : Contains active x) (bound : IsUpperBound active_cmp x active) (stop : ℕ) (new : List PlaceSpan)
      (covers : Covers kind at stop x.0.0 spans new) (settled : IsSettled spans kind at → IsSettled new kind (max at stop)) where
    covered_sound : stop ≤ x.1 + 1 → (k : SpanKind) (p l : ℕ) → Holds new k p l → Holds old k p l ⊎ ((k ≡ kind) × (from ≤ p) × Reaches first p l)
    covered_sound within k p l h =
        ⊎_elim (λ before. so_far.sound k p l before)
        (λ (same, low, high, last).
        let onward : from ≤ at = so_far.onward in
        inr (same, omega arith, record { item = x; among = so_far.actives x among; last_is = sym last; to = omega arith }))
        (covers.sound k p l h)

    covered_fits : stop ≤ x.1 + 1 → (gap_of kind ≡ 0 → All (λ item. item.1 ≤ from) first) → All FitsKind old → All FitsKind new
    covered_fits within low all =
        covers.fits
        (λ single.
        let end : x.1 ≤ from = All-contains (λ item. item.1 ≤ from) first x (low single) (so_far.actives x among) in
        let onward : from ≤ at = so_far.onward in
        omega arith)
        (so_far.fits low all)

    -- a place that is reached is covered, or one of the later places
    covered_least : (left : List Active) → ((y : Active) → Contains active y → stop ≤ y.1 → Contains left y) → (p l : ℕ) → from ≤ p →
        Reaches first p l → HasLess new kind p l ⊎ ((max at stop ≤ p) × Reaches left p l)
    covered_least left stays p l low h =
        ⊎_elim (λ less. inl (HasLess-kept spans new covers.kept kind p l less))
        (λ (past, reaches).
        let least : x.0.0 ≤ reaches.item.0.0 = least_first x active bound reaches.item reaches.among in
        let last : reaches.item.0.0 ≡ l = reaches.last_is in
        let to : p ≤ reaches.item.1 = reaches.to in
        ⊎_elim (λ (before : p < stop). inl (x.0.0, omega arith, covers.added p past before))
        (λ (after : stop ≤ p).
        inr (omega arith, record { item = reaches.item; among = stays reaches.item reaches.among (omega arith); last_is = last; to = to }))
        (cases_lt p stop))
        (so_far.least p l low h)

    -- it reaches past `stop`, and stays
    pub Advances-stop : stop ≤ x.1 → Advances kind from first old (max at stop) active new
    Advances-stop within = record {
      onward = let onward : from ≤ at = so_far.onward in omega arith;
      kept = λ k p l h. covers.kept k p l (so_far.kept k p l h);
      sound = covered_sound (omega arith);
      least = covered_least active (λ y h past. h);
      actives = so_far.actives;
      settled = λ h. settled (so_far.settled h);
      fits = covered_fits (omega arith);
    }

    -- it ends before `stop`, and leaves
    pub Advances-leave : (left : List Active) → IsPermutation active (x ∷ left) → stop ≡ x.1 + 1 → Advances kind from first old (max at stop) left new
    Advances-leave left moved end = record {
      onward = let onward : from ≤ at = so_far.onward in omega arith;
      kept = λ k p l h. covers.kept k p l (so_far.kept k p l h);
      sound = covered_sound (omega arith);
      least = covered_least left (λ y h past.
          ⊎_elim (λ (e : x ≡ y). let same : x.1 ≡ y.1 = ap (λ z. z.1) e in absurd (omega arith)) (λ later. later)
          (Contains-cons_cases x left y (Contains-permutation active (x ∷ left) y moved h)));
      actives = λ item h.
          so_far.actives item (Contains-permutation (x ∷ left) active item (IsPermutation-sym active (x ∷ left) moved) (Contains-tail x left item h));
      settled = λ h. settled (so_far.settled h);
      fits = covered_fits (omega arith);
    }

-- The same in the form in which the code has them: the kind, the place and the active spans by equations.
module _ (kind : SpanKind) (from : ℕ) (first : List Active) (old : List PlaceSpan) (at : ℕ) (active : List Active) (spans : List PlaceSpan)
    (so_far : Advances kind from first old at active spans) (x : Active) (at_first : IsFirst active_cmp x active)
    (k : SpanKind) (same : k ≡ kind) (stop : ℕ) (new : List PlaceSpan) (covers : Covers k at stop x.0.0 spans new)
    (next : ℕ) (is_next : next ≡ max at stop) (settled : IsSettled spans k at → IsSettled new k next) where
  covers_same : Covers kind at stop x.0.0 spans new
  covers_same = subst (λ j. Covers j at stop x.0.0 spans new) same covers

  settled_same : IsSettled spans kind at → IsSettled new kind (max at stop)
  settled_same =
      let P : SpanKind → ℕ → Type 0 = λ j n. IsSettled spans j at → IsSettled new j n in
      subst (λ n. P kind n) is_next (subst (λ j. P j next) same settled)

  pub Advances-stopped : (left : List Active) → left ≡ active → at ≤ stop → stop ≤ x.1 → Advances kind from first old stop left new
  Advances-stopped left stays onward within =
      let there : max at stop ≡ stop = omega arith in
      subst (λ n. Advances kind from first old n left new) there
      (subst (λ l. Advances kind from first old (max at stop) l new) (sym stays)
      (Advances-stop kind from first old at active spans so_far x (IsFirst-among active_cmp active x at_first) at_first.bound stop new covers_same settled_same within))

  pub Advances-left : (others left : List Active) → left ≡ others → IsPermutation active (x ∷ others) → stop ≡ x.1 + 1 → Advances kind from first old next left new
  Advances-left others left stays moved end =
      subst (λ n. Advances kind from first old n left new) (sym is_next)
      (subst (λ l. Advances kind from first old (max at stop) l new) (sym stays)
      (Advances-leave kind from first old at active spans so_far x (IsFirst-among active_cmp active x at_first) at_first.bound stop new covers_same settled_same others moved end))
