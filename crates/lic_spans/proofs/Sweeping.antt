-- What a sweep has done stays so while it continues, turns to another kind and takes one span more.
use Rattle.std.proofs.Common.{◌≡◌, ℕ, ◌+◌, ◌^◌, ◌<◌, ◌≤◌, List, [], ◌∷◌, ◌++◌, refl, sym, ◌∙◌, ap, subst, inl, inr, ⊎_elim, arith, get_or}
use Rattle.std.proofs.lemmas.List.Elements.{All-contains, All-weaker, Contains-append_left, Contains-push, Contains-get_or}
use Rattle.std.proofs.lemmas.List.Sorted.{IsPermutation-sym, Contains-permutation}
use Rattle.std.specs.List.{All, Contains}
use Rattle.std.specs.List.Sorted.{IsPermutation}
use Rattle.lic_spans.specs.declared.span.SpanKind.{SpanKind}
use Rattle.lic_spans.specs.declared.span.PlaceSpan.{PlaceSpan}
use Rattle.lic_spans.specs.Spans.{FitsKind, gap_of, Holds, LiesBefore, rank}
use Rattle.lic_spans.specs.Sweeps.{Active, Reaches, HasLess, IsTaken, Advances, IsSweepOf, IsLeastOf}
use Rattle.lic_spans.proofs.Members.{Contains-nil, Contains-head, Contains-tail, Contains-cons_cases, Holds-left, Holds-append_cases, HasPlace-single, HasLess-kept}
use Rattle.lic_spans.proofs.Ranks.{rank-same}
use Rattle.lic_spans.proofs.Settling.{All-front}

IsTaken-later : (taken : List PlaceSpan) (kind : SpanKind) (at to : ℕ) → at ≤ to → (item : Active) → IsTaken taken kind at item → IsTaken taken kind to item
IsTaken-later taken kind at to onward item h =
    let from : h.span.low ≤ at = h.from in
    record { span = h.span; among = h.among; kind_is = h.kind_is; from = omega arith; to = h.to; last_is = h.last_is; bounded = h.bounded }

IsTaken-more : (taken more : List PlaceSpan) (kind : SpanKind) (at : ℕ) (item : Active) → IsTaken taken kind at item → IsTaken (taken ++ more) kind at item
IsTaken-more taken more kind at item h = record {
  span = h.span;
  among = Contains-append_left taken more h.span h.among;
  kind_is = h.kind_is;
  from = h.from;
  to = h.to;
  last_is = h.last_is;
  bounded = h.bounded;
}

-- what an active span reaches, the spans that were taken hold
Holds-reached : (taken : List PlaceSpan) (kind : SpanKind) (at : ℕ) (active : List Active) → ((item : Active) → Contains active item → IsTaken taken kind at item) →
    (k : SpanKind) (p l : ℕ) → k ≡ kind → at ≤ p → Reaches active p l → Holds taken k p l
Holds-reached taken kind at active actives k p l same past h =
    let t : IsTaken taken kind at h.item = actives h.item h.among in
    let from : t.span.low ≤ at = t.from in
    let to : t.span.high ≡ h.item.1 = t.to in
    let reach : p ≤ h.item.1 = h.to in
    record { span = t.span; among = t.among; kind_is = t.kind_is ∙ sym same; from = omega arith; to = omega arith; last_is = t.last_is ∙ h.last_is }

-- an active span of a single place ends where the sweep is
single_reached : (taken : List PlaceSpan) (kind : SpanKind) (at : ℕ) (active : List Active) → ((item : Active) → Contains active item → IsTaken taken kind at item) →
    All FitsKind taken → gap_of kind ≡ 0 → All (λ item. item.1 ≤ at) active
single_reached taken kind at active actives all single = λ k d low.
    let t : IsTaken taken kind at (get_or active k d) = actives (get_or active k d) (Contains-get_or active k d low) in
    let from : t.span.low ≤ at = t.from in
    let to : t.span.high ≡ (get_or active k d).1 = t.to in
    let one : t.span.low ≡ t.span.high = All-contains FitsKind taken t.span all t.among (ap gap_of t.kind_is ∙ single) in
    omega arith

pub IsSweepOf-advanced : (taken : List PlaceSpan) (kind : SpanKind) (at : ℕ) (active : List Active) (spans : List PlaceSpan) (to : ℕ) (left : List Active) (new : List PlaceSpan) →
    Advances kind at active spans to left new → IsSweepOf taken kind at active spans → IsSweepOf taken kind to left new
IsSweepOf-advanced taken kind at active spans to left new goes h = record {
  sound = λ k p l holds.
      ⊎_elim (h.sound k p l) (λ (same, past, reaches). Holds-reached taken kind at active h.actives k p l same past reaches) (goes.sound k p l holds);
  actives = λ item among. IsTaken-later taken kind at to goes.onward item (h.actives item (goes.actives item among));
  done = λ k p l holds.
      ⊎_elim (λ less. inl (HasLess-kept spans new goes.kept k p l less))
      (λ (same, past, reaches).
      ⊎_elim (λ less. inl (subst (λ j. HasLess new j p l) (sym same) less)) (λ (after, stays). inr (same, after, stays)) (goes.least p l past reaches))
      (h.done k p l holds);
  settled = goes.settled h.settled;
  fits = λ all. goes.fits (λ single. single_reached taken kind at active h.actives all single) (h.fits all);
}

-- no active span reaches the greatest place
pub reaches_below : (taken : List PlaceSpan) (kind : SpanKind) (at : ℕ) (active : List Active) (spans : List PlaceSpan) → IsSweepOf taken kind at active spans →
    All (λ item. item.1 < 18446744073709551615) active
reaches_below taken kind at active spans h = λ k d low.
    let t = h.actives (get_or active k d) (Contains-get_or active k d low) in
    let to : t.span.high ≡ (get_or active k d).1 = t.to in
    let bounded : t.span.high + 1 < 2 ^ 64 = t.bounded in
    omega arith

-- at the greatest place all is done
done_at_end : (taken : List PlaceSpan) (kind : SpanKind) (active : List Active) (spans : List PlaceSpan) → IsSweepOf taken kind 18446744073709551615 active spans →
    (k : SpanKind) (p l : ℕ) → Holds taken k p l → HasLess spans k p l
done_at_end taken kind active spans h k p l holds =
    ⊎_elim (λ less. less)
    (λ (same, past, reaches).
    let t = h.actives reaches.item reaches.among in
    let to : t.span.high ≡ reaches.item.1 = t.to in
    let bounded : t.span.high + 1 < 2 ^ 64 = t.bounded in
    let reach : p ≤ reaches.item.1 = reaches.to in
    absurd (omega arith))
    (h.done k p l holds)

pub IsLeastOf-end : (taken : List PlaceSpan) (kind : SpanKind) (active : List Active) (spans : List PlaceSpan) →
    IsSweepOf taken kind 18446744073709551615 active spans → IsLeastOf taken spans
IsLeastOf-end taken kind active spans h = record {
  sound = h.sound;
  done = done_at_end taken kind active spans h;
  apart = h.settled.apart;
  ordered = h.settled.ordered;
  fits = h.fits;
}

-- at the greatest place the sweep can turn to a later kind
pub IsSweepOf-turned : (taken : List PlaceSpan) (kind : SpanKind) (active : List Active) (spans : List PlaceSpan) (next : SpanKind) → rank kind ≤ rank next →
    (kind ≡ next → ⊥) → IsSweepOf taken kind 18446744073709551615 active spans → IsSweepOf taken next 0 [] spans
IsSweepOf-turned taken kind active spans next up other h = record {
  sound = h.sound;
  actives = λ item among. absurd (Contains-nil item among);
  done = λ k p l holds. inl (done_at_end taken kind active spans h k p l holds);
  settled = record {
    apart = h.settled.apart;
    before = All-weaker (LiesBefore kind 18446744073709551615) (LiesBefore next 0)
        (λ s before. let low : rank s.kind ≤ rank kind = before.kinds in record {
          kinds = omega arith;
          places = λ same. let there : rank s.kind ≡ rank next = ap rank same in absurd (other (rank-same kind next (omega arith)));
        }) spans h.settled.before;
    ordered = h.settled.ordered;
  };
  fits = h.fits;
}

-- one span more, which begins at the place
pub IsSweepOf-push : (taken : List PlaceSpan) (active : List Active) (spans : List PlaceSpan) (s : PlaceSpan) → s.high + 1 < 2 ^ 64 →
    (more : List Active) → IsPermutation ((record { 0 = s.last }, s.high) ∷ active) more →
    IsSweepOf taken s.kind s.low active spans → IsSweepOf (taken ++ s ∷ []) s.kind s.low more spans
IsSweepOf-push taken active spans s bounded more moved h =
    let x : Active = (record { 0 = s.last }, s.high) in
    let old : (item : Active) → Contains active item → Contains more item = λ item among. Contains-permutation (x ∷ active) more item moved (Contains-tail x active item among) in
    let new : Contains more x = Contains-permutation (x ∷ active) more x moved (Contains-head x active) in
    let taken_new : IsTaken (taken ++ s ∷ []) s.kind s.low x =
    record { span = s; among = Contains-push taken s; kind_is = refl; from = omega arith; to = refl; last_is = refl; bounded = bounded } in
    record {
      sound = λ k p l holds. Holds-left taken (s ∷ []) k p l (h.sound k p l holds);
      actives = λ item among.
          ⊎_elim (λ (e : x ≡ item). subst (IsTaken (taken ++ s ∷ []) s.kind s.low) e taken_new)
          (λ later. IsTaken-more taken (s ∷ []) s.kind s.low item (h.actives item later))
          (Contains-cons_cases x active item (Contains-permutation more (x ∷ active) item (IsPermutation-sym (x ∷ active) more moved) among));
      done = λ k p l holds.
          ⊎_elim
          (λ before. ⊎_elim (λ less. inl less)
          (λ (same, past, reaches). inr (same, past, record { item = reaches.item; among = old reaches.item reaches.among; last_is = reaches.last_is; to = reaches.to }))
          (h.done k p l before))
          (λ last. let has = HasPlace-single s k p l last in
          inr (sym has.kind, has.from, record { item = x; among = new; last_is = has.last; to = has.to }))
          (Holds-append_cases taken (s ∷ []) k p l holds);
      settled = h.settled;
      fits = λ all. h.fits (All-front FitsKind taken s all);
    }
