-- Going back from the numbers of one span, one after another.
use Rattle.std.proofs.Common.{◌≡◌, ◌⊎◌, ◌↔◌, ℕ, ◌+◌, ◌<◌, ◌≤◌, List, [], ◌∷◌, ◌++◌, inl, inr, sym, arith, subst, ◌∙◌, append_assoc}
use Rattle.std.proofs.lemmas.Bool.{cases_lt}
use Rattle.std.proofs.lemmas.List.{append-nil}
use Rattle.lic_words.specs.Words.{Word}
use Rattle.lic_tokens.specs.Tokens.{TokenValue}
use Rattle.lic_spans.specs.Spans.{Holds}
use Rattle.lic_spans.specs.declared.span.PlaceSpan.{PlaceSpan}
use Rattle.lic_view.specs.PlaceSets.{IsPlaceOf, Reaches}
use Rattle.lic_view.specs.Backward.{AddsBack, IsBackFrom}
use Rattle.lic_view.proofs.Back.{back-both, back-nothing, back-same}
use Rattle.lic_view.proofs.BlankLemmas.{held, holds-one}
use Rattle.lic_view.specs.declared.sets.keep.Keep.{Keep}

-- the place of one number of a span, with its last token
abbrev pub At : List TokenValue → PlaceSpan → ℕ → ℕ → ℕ → Type 0
At tokens span number q last = (last ≡ span.last) × IsPlaceOf tokens span.kind number q

-- the places of the numbers of a span below one
abbrev pub Below : List TokenValue → PlaceSpan → ℕ → ℕ → ℕ → Type 0
Below tokens span end q last = (number : ℕ) × (span.low ≤ number) × (number < end) × At tokens span number q last

-- spans were added that have what leads to the places of the numbers below one
pub record AddsBelow (keep : Keep) (tokens : List TokenValue) (P : Word → Type 0) (span : PlaceSpan) (end : ℕ) (old new : List PlaceSpan) : Type 0 where
  pub more : List PlaceSpan
  pub added : new ≡ old ++ more
  pub back : IsBackFrom keep tokens P (Below tokens span end) more

-- at first no number is below the first one
pub below-first : (keep : Keep) (tokens : List TokenValue) (P : Word → Type 0) (span : PlaceSpan) (old : List PlaceSpan) → AddsBelow keep tokens P span span.low old old
below-first keep tokens P span old = record {
  more = [];
  added = sym (append-nil old);
  back = back-nothing keep tokens P (Below tokens span span.low) (λ p q last w e is reads. omega (arith, e.1, e.2));
}

-- what leads to the places of one number more
pub below-more : (keep : Keep) (tokens : List TokenValue) (P : Word → Type 0) (span : PlaceSpan) (number : ℕ) (old new next ys : List PlaceSpan) → span.low ≤ number →
    AddsBelow keep tokens P span number old new → IsBackFrom keep tokens P (At tokens span number) ys → next ≡ new ++ ys →
    AddsBelow keep tokens P span (number + 1) old next
below-more keep tokens P span number old new next ys from adds back is = record {
  more = adds.more ++ ys;
  added = is ∙ subst (λ x. x ++ ys ≡ old ++ (adds.more ++ ys)) (sym adds.added) (append_assoc old adds.more ys);
  back = back-same keep tokens P P _ _ (adds.more ++ ys) (λ w. (λ h. h, λ h. h)) (λ q last. places q last)
      (back-both keep tokens P (Below tokens span number) (At tokens span number) adds.more ys adds.back back);
}
  where
    places : (q last : ℕ) → (Below tokens span number q last ⊎ At tokens span number q last) ↔ Below tokens span (number + 1) q last
    places q last = (forward, λ e. backward e (cases_lt e.0 number))
      where
        forward : Below tokens span number q last ⊎ At tokens span number q last → Below tokens span (number + 1) q last
        forward (inl e) = (e.0, e.1, omega (arith, e.2), e.3)
        forward (inr e) = (number, from, omega arith, e)

        backward : (e : Below tokens span (number + 1) q last) → (e.0 < number) ⊎ (number ≤ e.0) → Below tokens span number q last ⊎ At tokens span number q last
        backward e (inl below) = inl (e.0, e.1, below, e.3)
        backward e (inr reached) = let same : e.0 ≡ number = omega (arith, e.2) in inr (subst (λ x. At tokens span x q last) same e.3)

-- all numbers of a span
pub below-all : (keep : Keep) (tokens : List TokenValue) (P : Word → Type 0) (span : PlaceSpan) (end : ℕ) (old new : List PlaceSpan) → end ≡ span.high + 1 →
    AddsBelow keep tokens P span end old new → AddsBack keep tokens P span old new
below-all keep tokens P span end old new last adds = record {
  more = adds.more;
  added = adds.added;
  back = back-same keep tokens P P (Below tokens span end) (Reaches tokens (span ∷ [])) adds.more (λ w. (λ h. h, λ h. h)) (λ q l. places q l) adds.back;
}
  where
    places : (q l : ℕ) → Below tokens span end q l ↔ Reaches tokens (span ∷ []) q l
    places q l = (
      λ e. record {
        kind = span.kind;
        number = e.0;
        holds = subst (λ x. Holds (span ∷ []) span.kind e.0 x) (sym e.3.0) (holds-one span e.0 e.1 (omega (arith, e.2, last)));
        place = e.3.1;
      },
      λ r. let h = held span r.kind r.number l r.holds in
          (r.number, h.1, omega (arith, h.2, last), (sym h.3, subst (λ k. IsPlaceOf tokens k r.number q) (sym h.0) r.place)),
    )
