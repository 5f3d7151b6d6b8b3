-- Places of spans, and sets of places put together.
use Rattle.std.proofs.Common.{◌≡◌, ℕ, ◌+◌, ◌<◌, ◌≤◌, ◌⊎◌, inl, inr, List, [], ◌++◌, length, refl, sym, ap, ◌∙◌, arith, subst, get_or}
use Rattle.std.proofs.lemmas.Bool.{cases_lt}
use Rattle.std.proofs.lemmas.List.{get_or_default}
use Rattle.std.specs.Prelude.{Contains}
use Rattle.lic_tokens.specs.Tokens.{TokenValue}
use Rattle.lic_places.specs.Places.{AreTexts}
use Rattle.lic_spans.specs.declared.span.PlaceSpan.{PlaceSpan}
use Rattle.lic_view.specs.PlaceSets.{ArePlaced, IsPlaceOf, Reaches}
use Rattle.lic_view.specs.Backward.{IsBack, Keeps}
use Rattle.lic_view.specs.declared.sets.keep.Keep.{Keep}
use Rattle.lic_view.proofs.Back.{back-keeps, back-stay}
use Rattle.lic_view.proofs.Placed.{ArePlaced-append}

-- some number of the span gives the place
abbrev pub HasNumber : List TokenValue → PlaceSpan → ℕ → Type 0
HasNumber tokens span place = (number : ℕ) × (span.low ≤ number) × (number ≤ span.high) × IsPlaceOf tokens span.kind number place

pub reaches-number : (tokens : List TokenValue) (spans : List PlaceSpan) (span : PlaceSpan) (place : ℕ) → Contains spans span → HasNumber tokens span place
    → (last : ℕ) × Reaches tokens spans place last
reaches-number tokens spans span place among (number, from, to, is) = (
  span.last,
  record {
    kind = span.kind;
    number = number;
    holds = record { span = span; among = among; kind_is = refl; from = from; to = to; last_is = refl };
    place = is;
  },
)

pub reaches-none : (tokens : List TokenValue) (spans : List PlaceSpan) (place last : ℕ)
    → ((k : ℕ) (d : PlaceSpan) → k < length spans → HasNumber tokens (get_or spans k d) place → ⊥) → Reaches tokens spans place last → ⊥
reaches-none tokens spans place last none r =
    let holds = r.holds in
    let kind = subst (λ k. IsPlaceOf tokens k r.number place) (sym holds.kind_is) r.place in
    none holds.among.0 holds.span holds.among.1
    (subst (λ s. HasNumber tokens s place) (sym holds.among.2) (r.number, holds.from, holds.to, kind))

-- the places of two sets, each once
pub either-kept : (keep : Keep) (tokens : List TokenValue) (spans others all found : List PlaceSpan) → AreTexts tokens → ArePlaced tokens spans → ArePlaced tokens others
    → all ≡ spans ++ others → Keeps keep all found → IsBack keep tokens (λ w. w ≡ []) (spans ++ others) found
either-kept keep tokens spans others all found texts placed placed_others is keeps =
    back-keeps keep tokens (λ w. w ≡ []) (Reaches tokens (spans ++ others)) (spans ++ others) found texts
    (back-stay keep tokens (spans ++ others) (ArePlaced-append tokens spans others placed placed_others))
    (subst (λ x. Keeps keep x found) is keeps)

-- nor has one span more the place
pub one-more : (tokens : List TokenValue) (spans : List PlaceSpan) (place i : ℕ) (e : PlaceSpan) → i < length spans
    → ((k : ℕ) (d : PlaceSpan) → k < i → HasNumber tokens (get_or spans k d) place → ⊥) → (HasNumber tokens (get_or spans i e) place → ⊥)
    → (k : ℕ) (d : PlaceSpan) → k < i + 1 → HasNumber tokens (get_or spans k d) place → ⊥
one-more tokens spans place i e within before here k d below found =
    elim (cases_lt k i) [
      | inl earlier ↦ before k d earlier found
      | inr later ↦
          let same : k ≡ i = omega arith in
          here (subst (λ s. HasNumber tokens s place) (ap (λ n. get_or spans n d) same ∙ get_or_default spans i d e within) found)
    ]
