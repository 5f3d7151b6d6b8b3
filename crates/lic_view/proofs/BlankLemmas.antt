-- Going back over a blank from the places of one span.
use Rattle.std.proofs.Common.{◌≡◌, ◌⊎◌, ◌↔◌, ℕ, ◌<◌, ◌≤◌, false, List, [], ◌∷◌, length, inl, inr, refl, sym, ap, arith, subst, ◌∙◌}
use Rattle.std.specs.Prelude.{Contains}
use Rattle.std.proofs.lemmas.List.Elements.{All-contains, All-nil, All-push, Contains-push_cases}
use Rattle.lic_words.specs.Words.{Word, blank}
use Rattle.lic_tokens.specs.Tokens.{TokenValue}
use Rattle.lic_tokens.specs.Places.{place_end}
use Rattle.lic_places.specs.Places.{AreTexts, IsAfterBlank, OverBlank, is_blank_at, over, spelling_of, stays}
use Rattle.lic_places.specs.Reads.{Reads, Takes}
use Rattle.lic_spans.specs.Spans.{Holds}
use Rattle.lic_spans.specs.declared.span.SpanKind.{SpanKind}
use Rattle.lic_spans.specs.declared.span.SpanKind.TheVariants.{End, Letters, Blanks}
use Rattle.lic_spans.specs.declared.span.PlaceSpan.{PlaceSpan}
use Rattle.lic_view.specs.PlaceSets.{ArePlaced, IsPlaceOf, LiesBefore, Reaches}
use Rattle.lic_view.specs.Backward.{Beats, IsBack}
use Rattle.lic_view.proofs.PlaceLaws.{blank-one, blank-twice, blanks-apart, end-not_after}
use Rattle.lic_view.proofs.Back.{Beats-same}
use Rattle.lic_view.specs.declared.sets.keep.Keep.{Keep}

-- the word of one blank
abbrev pub IsBlank : Word → Type 0
IsBlank w = w ≡ blank ∷ []

-- one blank is read where it leads
pub blank-read : (tokens : List TokenValue) (p q : ℕ) → Reads tokens p (blank ∷ []) q ↔ OverBlank tokens p q
blank-read tokens p q = (forward, λ o. (q, inl (refl, o), refl))
  where
    forward : Reads tokens p (blank ∷ []) q → OverBlank tokens p q
    forward reads = taken reads.1
      where
        taken : Takes tokens p blank reads.0 → OverBlank tokens p q
        taken (inl is) = subst (λ x. OverBlank tokens p x) reads.2 is.1
        taken (inr is) = absurd (is.0 refl)

-- what one span holds
pub held : (span : PlaceSpan) (kind : SpanKind) (number last : ℕ) → Holds (span ∷ []) kind number last →
    (span.kind ≡ kind) × (span.low ≤ number) × (number ≤ span.high) × (span.last ≡ last)
held span kind number last holds = by_member (Contains-push_cases [] span holds.span holds.among)
  where
    by_member : Contains [] holds.span ⊎ (span ≡ holds.span) → (span.kind ≡ kind) × (span.low ≤ number) × (number ≤ span.high) × (span.last ≡ last)
    by_member (inl none) = absurd (omega (arith, none.1))
    by_member (inr same) = (
      ap (λ s. s.kind) same ∙ holds.kind_is,
      subst (λ (s : PlaceSpan). s.low ≤ number) (sym same) holds.from,
      subst (λ (s : PlaceSpan). number ≤ s.high) (sym same) holds.to,
      ap (λ s. s.last) same ∙ holds.last_is,
    )

pub holds-one : (span : PlaceSpan) (number : ℕ) → span.low ≤ number → number ≤ span.high → Holds (span ∷ []) span.kind number span.last
holds-one span number from to = record { span = span; among = (0, omega arith, refl); kind_is = refl; from = from; to = to; last_is = refl }

-- a span of the same numbers, of another kind, whose places are those to which a blank leads from the places of the one
pub back-renamed : (keep : Keep) (tokens : List TokenValue) (span other : PlaceSpan) → ArePlaced tokens (span ∷ []) →
    other.low ≡ span.low → other.high ≡ span.high → other.last ≡ span.last →
    ((number : ℕ) → LiesBefore tokens span.kind number span.last → LiesBefore tokens other.kind number span.last) →
    ((number p : ℕ) → LiesBefore tokens span.kind number span.last →
    IsPlaceOf tokens other.kind number p ↔ ((q : ℕ) × IsPlaceOf tokens span.kind number q × OverBlank tokens p q)) →
    IsBack keep tokens IsBlank (span ∷ []) (other ∷ [])
back-renamed keep tokens span other placed low high last front places = record {
  placed = record {
    ordered = All-push (λ (s : PlaceSpan). s.low ≤ s.high) [] other (All-nil (λ (s : PlaceSpan). s.low ≤ s.high)) order;
    last = All-push (λ (s : PlaceSpan). s.last < length tokens) [] other (All-nil (λ (s : PlaceSpan). s.last < length tokens)) within;
    front = λ kind number l holds. fronts kind number l (held other kind number l holds);
  };
  sound = λ p l r. sound p l r (held other r.kind r.number l r.holds);
  complete = λ p q l w r is reads. complete p q l w r (held span r.kind r.number l r.holds) is reads;
}
  where
    order : other.low ≤ other.high
    order = let o = All-contains (λ (s : PlaceSpan). s.low ≤ s.high) (span ∷ []) span placed.ordered (0, omega arith, refl) in omega (arith, o, low, high)

    within : other.last < length tokens
    within = let o = All-contains (λ (s : PlaceSpan). s.last < length tokens) (span ∷ []) span placed.last (0, omega arith, refl) in omega (arith, o, last)

    in_front : (number : ℕ) → span.low ≤ number → number ≤ span.high → LiesBefore tokens span.kind number span.last
    in_front number from to = placed.front span.kind number span.last (holds-one span number from to)

    fronts : (kind : SpanKind) (number l : ℕ) → (other.kind ≡ kind) × (other.low ≤ number) × (number ≤ other.high) × (other.last ≡ l) →
        LiesBefore tokens kind number l
    fronts kind number l h =
        subst (λ x. LiesBefore tokens kind number x) (sym last ∙ h.3)
        (subst (λ k. LiesBefore tokens k number span.last) h.0
        (front number (in_front number (omega (arith, h.1, low)) (omega (arith, h.2, high)))))

    sound : (p l : ℕ) (r : Reaches tokens (other ∷ []) p l) →
        (other.kind ≡ r.kind) × (other.low ≤ r.number) × (r.number ≤ other.high) × (other.last ≡ l) →
        (q : ℕ) × Reaches tokens (span ∷ []) q l × (w : Word) × IsBlank w × Reads tokens p w q
    sound p l r h =
        let from : span.low ≤ r.number = omega (arith, h.1, low) in
        let to : r.number ≤ span.high = omega (arith, h.2, high) in
        let place = (places r.number p (in_front r.number from to)).0 (subst (λ k. IsPlaceOf tokens k r.number p) (sym h.0) r.place) in
        let holds : Holds (span ∷ []) span.kind r.number l = subst (λ x. Holds (span ∷ []) span.kind r.number x) (sym last ∙ h.3) (holds-one span r.number from to) in
        (place.0, record { kind = span.kind; number = r.number; holds = holds; place = place.1 }, blank ∷ [], refl, (blank-read tokens p place.0).1 place.2)

    complete : (p q l : ℕ) (w : Word) (r : Reaches tokens (span ∷ []) q l) →
        (span.kind ≡ r.kind) × (span.low ≤ r.number) × (r.number ≤ span.high) × (span.last ≡ l) → IsBlank w → Reads tokens p w q →
        (o : ℕ) × Beats keep tokens p o l × Reaches tokens (other ∷ []) p o
    complete p q l w r h is reads =
        let blank-leads = (blank-read tokens p q).0 (subst (λ x. Reads tokens p x q) is reads) in
        let place = (places r.number p (in_front r.number h.1 h.2)).1 (q, subst (λ k. IsPlaceOf tokens k r.number q) (sym h.0) r.place, blank-leads) in
        let from : other.low ≤ r.number = omega (arith, h.1, low) in
        let to : r.number ≤ other.high = omega (arith, h.2, high) in
        let holds : Holds (other ∷ []) other.kind r.number l = subst (λ x. Holds (other ∷ []) other.kind r.number x) (last ∙ h.3) (holds-one other r.number from to) in
        (l, Beats-same keep tokens p l, record { kind = other.kind; number = r.number; holds = holds; place = place })

-- at the end of a token one blank leads nowhere else
pub blank-at_end : (tokens : List TokenValue) (last p : ℕ) → AreTexts tokens → last < length tokens →
    OverBlank tokens p (place_end tokens last) ↔ (p ≡ place_end tokens last)
blank-at_end tokens last p texts within = (
  λ o. blank-one tokens p (place_end tokens last) (place_end tokens last) o here,
  λ same. subst (λ x. OverBlank tokens x (place_end tokens last)) (sym same) here,
)
  where
    here : OverBlank tokens (place_end tokens last) (place_end tokens last)
    here = stays (end-not_after tokens last texts within) (inr (inr (record { number = last; within = within; ends = refl })))

-- a second blank leads nowhere else
pub blank-again : (tokens : List TokenValue) (p q : ℕ) → AreTexts tokens → OverBlank tokens p q → OverBlank tokens p p
blank-again tokens p _ texts (over is) = stays (λ past. apart past) (inr (inl is))
  where
    apart : IsAfterBlank (spelling_of tokens) p → ⊥
    apart past = let no = blanks-apart tokens past.0 texts past.2 in
        let same : is_blank_at (spelling_of tokens) p ≡ false = subst (λ x. is_blank_at (spelling_of tokens) x ≡ false) (sym past.1) no in cc
blank-again tokens p _ texts (stays not gap) = stays not gap

-- of what nothing was taken, and of what is before a blank, the places stay
pub back-kept : (keep : Keep) (tokens : List TokenValue) (span : PlaceSpan) → AreTexts tokens → ArePlaced tokens (span ∷ []) → (span.kind ≡ End) ⊎ (span.kind ≡ Blanks) →
    IsBack keep tokens IsBlank (span ∷ []) (span ∷ [])
back-kept keep tokens span texts placed kinds = back-renamed keep tokens span span placed refl refl refl (λ number front. front) (λ number p front. by_kind kinds number p front)
  where
    within : span.last < length tokens
    within = All-contains (λ (s : PlaceSpan). s.last < length tokens) (span ∷ []) span placed.last (0, omega arith, refl)

    Moved : ℕ → ℕ → Type 0
    Moved number p = IsPlaceOf tokens span.kind number p ↔ ((q : ℕ) × IsPlaceOf tokens span.kind number q × OverBlank tokens p q)

    by_kind : (span.kind ≡ End) ⊎ (span.kind ≡ Blanks) → (number p : ℕ) → LiesBefore tokens span.kind number span.last → Moved number p
    by_kind (inl is) number p front =
        subst (λ k. LiesBefore tokens k number span.last → IsPlaceOf tokens k number p ↔ ((q : ℕ) × IsPlaceOf tokens k number q × OverBlank tokens p q)) (sym is) at_end front
      where
        at_end : number ≡ place_end tokens span.last → (p ≡ number) ↔ ((q : ℕ) × (q ≡ number) × OverBlank tokens p q)
        at_end ends = (
          λ same. (number, refl, subst (λ x. OverBlank tokens p x) (sym ends) ((blank-at_end tokens span.last p texts within).1 (same ∙ ends))),
          λ m. (blank-at_end tokens span.last p texts within).0 (subst (λ x. OverBlank tokens p x) (m.1 ∙ ends) m.2) ∙ sym ends,
        )
    by_kind (inr is) number p front =
        subst (λ k. IsPlaceOf tokens k number p ↔ ((q : ℕ) × IsPlaceOf tokens k number q × OverBlank tokens p q)) (sym is) (
          λ place. (p, place, blank-again tokens p number texts place.1),
          λ m. (m.1.0, let same = blank-twice tokens p m.0 number texts m.1.1 m.2 in subst (λ x. OverBlank tokens x number) (sym same) m.1.1),
        )

-- of places at which letters begin those to which a blank leads
pub back-with_blank : (keep : Keep) (tokens : List TokenValue) (span other : PlaceSpan) → ArePlaced tokens (span ∷ []) → span.kind ≡ Letters → other ≡ record span { kind = Blanks } →
    IsBack keep tokens IsBlank (span ∷ []) (other ∷ [])
back-with_blank keep tokens span other placed is renamed =
    subst (λ o. IsBack keep tokens IsBlank (span ∷ []) (o ∷ [])) (sym renamed)
    (back-renamed keep tokens span (record span { kind = Blanks }) placed refl refl refl
    (λ number front. subst (λ k. LiesBefore tokens k number span.last) is front)
    (λ number p front. subst (λ k. IsPlaceOf tokens Blanks number p ↔ ((q : ℕ) × IsPlaceOf tokens k number q × OverBlank tokens p q)) (sym is) (
      λ place. (number, (refl, place.0), place.1),
      λ m. (m.1.1, subst (λ x. OverBlank tokens p x) m.1.0 m.2),
    )))
