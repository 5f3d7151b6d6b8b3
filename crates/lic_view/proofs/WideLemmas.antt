-- Going back over letters from a span of many places, by a list of the places at which the letters end.
use Rattle.std.proofs.Common.{◌≡◌, ◌⊎◌, ◌↔◌, ℕ, ◌+◌, ◌-◌, ◌<◌, ◌≤◌, List, [], ◌∷◌, ◌++◌, length, inl, inr, refl, sym, ap, arith, subst, ◌∙◌, get_or, append_assoc}
use Rattle.std.proofs.Math.Logic.{⊎_elim}
use Rattle.std.proofs.lemmas.Bool.{cases_lt}
use Rattle.std.proofs.lemmas.List.{append-nil, get_or_default}
use Rattle.lic_words.specs.Words.{Word}
use Rattle.lic_tokens.specs.Tokens.{TokenValue}
use Rattle.lic_places.specs.Places.{AreTexts, spelling_of}
use Rattle.lic_places.specs.Reads.{Reads}
use Rattle.lic_places.proofs.TokenPlaces.{OverBlank-order}
use Rattle.lic_literals.specs.Ends.{EndsAt}
use Rattle.lic_spans.specs.Spans.{gap_of}
use Rattle.lic_spans.specs.declared.span.SpanKind.{SpanKind}
use Rattle.lic_spans.specs.declared.span.SpanKind.TheVariants.{End, Place, Letters, Blanks}
use Rattle.lic_spans.specs.declared.span.PlaceSpan.{PlaceSpan}
use Rattle.lic_view.specs.PlaceSets.{ArePlaced, IsPlaceOf, Reaches}
use Rattle.lic_view.specs.Backward.{AddsBack, IsBackFrom}
use Rattle.lic_view.specs.Wide.{HoldThoseOf, This}
use Rattle.lic_places.specs.Texts.{AreLetters}
use Rattle.lic_view.proofs.PlaceLaws.{text-read}
use Rattle.lic_view.proofs.Back.{Holds-last, Reaches-in_front, back-both, back-nothing, back-same}
use Rattle.lic_view.proofs.ViewPlaces.{end-within}
use Rattle.lic_view.proofs.ViewSpans.{last-one}
use Rattle.lic_view.proofs.SingleLemmas.{single}
use Rattle.lic_view.proofs.BlankLemmas.{held, holds-one}
use Rattle.lic_view.proofs.LetterLemmas.{IsWordOf, back-letters}
use Rattle.lic_view.specs.declared.sets.keep.Keep.{Keep}

-- which kinds have many places
wide-kinds : (kind : SpanKind) → gap_of kind ≡ 1 → (kind ≡ Letters) ⊎ (kind ≡ Blanks)
wide-kinds End wide = absurd (omega (arith, wide))
wide-kinds Place wide = absurd (omega (arith, wide))
wide-kinds Letters wide = inl refl
wide-kinds Blanks wide = inr refl

-- the places of a span of many lie among its numbers, or one before
pub wide-between : (tokens : List TokenValue) (span : PlaceSpan) (q last : ℕ) → gap_of span.kind ≡ 1 → Reaches tokens (span ∷ []) q last →
    (span.low ≤ q + 1) × (q ≤ span.high)
wide-between tokens span q last wide r = by_kind (wide-kinds span.kind wide)
  where
    h : (span.kind ≡ r.kind) × (span.low ≤ r.number) × (r.number ≤ span.high) × (span.last ≡ last)
    h = held span r.kind r.number last r.holds

    by_kind : (span.kind ≡ Letters) ⊎ (span.kind ≡ Blanks) → (span.low ≤ q + 1) × (q ≤ span.high)
    by_kind (inl is) =
        let place = subst (λ k. IsPlaceOf tokens k r.number q) (sym h.0 ∙ is) r.place in
        (omega (arith, place.0, h.1), omega (arith, place.0, h.2))
    by_kind (inr is) =
        let place = subst (λ k. IsPlaceOf tokens k r.number q) (sym h.0 ∙ is) r.place in
        let order = OverBlank-order tokens q r.number place.1 in
        (omega (arith, order, h.1), omega (arith, order, h.2))

-- a place of a span that is one of the first n of a list
abbrev pub Listed : List TokenValue → PlaceSpan → List ℕ → ℕ → ℕ → ℕ → Type 0
Listed tokens span ends count q last = (k : ℕ) × (k < count) × (q ≡ get_or ends k 0) × Reaches tokens (span ∷ []) q last

-- spans were added that have what leads to the first n places of a list
pub record AddsListed (keep : Keep) (tokens : List TokenValue) (P : Word → Type 0) (span : PlaceSpan) (ends : List ℕ) (count : ℕ) (old new : List PlaceSpan) : Type 0 where
  pub more : List PlaceSpan
  pub added : new ≡ old ++ more
  pub back : IsBackFrom keep tokens P (Listed tokens span ends count) more

-- none of the first n is one of the span's, where they come before it
pub listed-first : (keep : Keep) (tokens : List TokenValue) (P : Word → Type 0) (span : PlaceSpan) (ends : List ℕ) (first : ℕ) (old : List PlaceSpan) → gap_of span.kind ≡ 1 →
    ((k : ℕ) → k < first → get_or ends k 0 < span.low - 1) → AddsListed keep tokens P span ends first old old
listed-first keep tokens P span ends first old wide before = record {
  more = [];
  added = sym (append-nil old);
  back = back-nothing keep tokens P (Listed tokens span ends first) (λ p q last w e is reads.
      let between = wide-between tokens span q last wide e.3 in
      omega (arith, between.0, e.2, before e.0 e.1));
}

pub listed-more : (keep : Keep) (tokens : List TokenValue) (P : Word → Type 0) (span : PlaceSpan) (ends : List ℕ) (i : ℕ) (old new next ys : List PlaceSpan) →
    AddsListed keep tokens P span ends i old new → IsBackFrom keep tokens P (This tokens span (get_or ends i 0)) ys → next ≡ new ++ ys →
    AddsListed keep tokens P span ends (i + 1) old next
listed-more keep tokens P span ends i old new next ys adds back is = record {
  more = adds.more ++ ys;
  added = is ∙ subst (λ x. x ++ ys ≡ old ++ (adds.more ++ ys)) (sym adds.added) (append_assoc old adds.more ys);
  back = back-same keep tokens P P _ _ (adds.more ++ ys) (λ w. (λ h. h, λ h. h)) (λ q last. places q last)
      (back-both keep tokens P (Listed tokens span ends i) (This tokens span (get_or ends i 0)) adds.more ys adds.back back);
}
  where
    places : (q last : ℕ) → (Listed tokens span ends i q last ⊎ This tokens span (get_or ends i 0) q last) ↔ Listed tokens span ends (i + 1) q last
    places q last = (forward, λ e. backward e (cases_lt e.0 i))
      where
        forward : Listed tokens span ends i q last ⊎ This tokens span (get_or ends i 0) q last → Listed tokens span ends (i + 1) q last
        forward (inl e) = (e.0, omega (arith, e.1), e.2, e.3)
        forward (inr e) = (i, omega arith, e.0, e.1)

        backward : (e : Listed tokens span ends (i + 1) q last) → (e.0 < i) ⊎ (i ≤ e.0) → Listed tokens span ends i q last ⊎ This tokens span (get_or ends i 0) q last
        backward e (inl below) = inl (e.0, below, e.2, e.3)
        backward e (inr reached) = let same : e.0 ≡ i = omega (arith, e.1) in inr (e.2 ∙ ap (λ k. get_or ends k 0) same, e.3)

-- all places of a span that are meant are listed, and those that come after `count` of them lie after the span
pub listed-all : (keep : Keep) (tokens : List TokenValue) (P : Word → Type 0) (Meant : ℕ → Type 0) (span : PlaceSpan) (ends : List ℕ) (count : ℕ) (old new : List PlaceSpan) →
    gap_of span.kind ≡ 1 → HoldThoseOf Meant span ends → ((k : ℕ) → count ≤ k → k < length ends → span.high < get_or ends k 0) →
    ((p q last : ℕ) (w : Word) → Reaches tokens (span ∷ []) q last → P w → Reads tokens p w q → Meant q) →
    AddsListed keep tokens P span ends count old new → AddsBack keep tokens P span old new
listed-all keep tokens P Meant span ends count old new wide has after meant adds = record {
  more = adds.more;
  added = adds.added;
  back = record {
    placed = adds.back.placed;
    sound = λ p last r. let s = adds.back.sound p last r in (s.0, s.1.3, s.2, s.3, s.4);
    complete = λ p q last w r is reads. adds.back.complete p q last w (listed p q last w r is reads) is reads;
  };
}
  where
    listed : (p q last : ℕ) (w : Word) → Reaches tokens (span ∷ []) q last → P w → Reads tokens p w q → Listed tokens span ends count q last
    listed p q last w r is reads =
        let between = wide-between tokens span q last wide r in
        let member = has.all q between.0 between.1 (meant p q last w r is reads) in
        let at : q ≡ get_or ends member.0 0 = sym member.2 ∙ get_or_default ends member.0 q 0 member.1 in
        ⊎_elim (λ (below : member.0 < count). (member.0, below, at, r))
        (λ past. absurd (omega (arith, between.1, at, after member.0 past member.1)))
        (cases_lt member.0 count)

-- letters that a word spells end where it ends
pub letters-meant : (tokens : List TokenValue) (letters : List ℕ) (spans : List PlaceSpan) → AreTexts tokens → AreLetters letters → ArePlaced tokens spans →
    (p q last : ℕ) (w : Word) → Reaches tokens spans q last → IsWordOf letters w → Reads tokens p w q → EndsAt (spelling_of tokens) letters q
letters-meant tokens letters spans texts are placed p q last w r is reads =
    let occurs = (text-read tokens letters p q texts are.utf8 are.piece are.some are.front are.end).0 (subst (λ x. Reads tokens p x q) is reads) in
    let token = Holds-last tokens spans r.kind r.number last placed r.holds in
    record { start = p; end = occurs.0; within = omega (arith, Reaches-in_front tokens spans q last placed r, end-within tokens last token); is = occurs.1 }

-- the place is one of the span's
abbrev pub HasPlace : List TokenValue → PlaceSpan → ℕ → Type 0
HasPlace tokens span q = (number : ℕ) × (span.low ≤ number) × (number ≤ span.high) × IsPlaceOf tokens span.kind number q

-- a place that is one of the span's
pub wide-reached : (tokens : List TokenValue) (span : PlaceSpan) (e : ℕ) → HasPlace tokens span e → Reaches tokens (span ∷ []) e span.last
wide-reached tokens span e place = record { kind = span.kind; number = place.0; holds = holds-one span place.0 place.1 place.2; place = place.3 }

-- letters that end at one of the places
pub wide-step : (keep : Keep) (tokens : List TokenValue) (letters : List ℕ) (span : PlaceSpan) (e : ℕ) → AreTexts tokens → AreLetters letters → ArePlaced tokens (span ∷ []) →
    HasPlace tokens span e → (ends : EndsAt (spelling_of tokens) letters e) →
    IsBackFrom keep tokens (IsWordOf letters) (This tokens span e) (single ends.start span.last ∷ [])
wide-step keep tokens letters span e texts are placed place ends =
    back-letters keep tokens letters (This tokens span e) e span.last texts are (last-one tokens span placed)
    (Reaches-in_front tokens (span ∷ []) e span.last placed reaches) (refl, reaches)
    (λ r l h. (h.0, sym (held span h.1.kind h.1.number l h.1.holds).3)) ends
  where
    reaches : Reaches tokens (span ∷ []) e span.last
    reaches = wide-reached tokens span e place

-- a place that is none of the span's
pub wide-none : (keep : Keep) (tokens : List TokenValue) (P : Word → Type 0) (span : PlaceSpan) (e : ℕ) → ¬ (HasPlace tokens span e) →
    IsBackFrom keep tokens P (This tokens span e) []
wide-none keep tokens P span e none = back-nothing keep tokens P (This tokens span e)
    (λ p q l w h is reads.
    let r = h.1 in
    let k = held span r.kind r.number l r.holds in
    none (r.number, k.1, k.2, subst (λ x. IsPlaceOf tokens span.kind r.number x) h.0 (subst (λ x. IsPlaceOf tokens x r.number q) (sym k.0) r.place)))
