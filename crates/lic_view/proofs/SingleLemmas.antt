-- Going back from one place to one place at most.
use Rattle.std.proofs.Common.{◌≡◌, ℕ, ◌<◌, ◌≤◌, List, [], ◌∷◌, length, refl, sym, arith, subst, get_or}
use Rattle.std.proofs.lemmas.Bool.{eqb-true}
use Rattle.std.specs.Str.{IsCharBoundary}
use Rattle.std.proofs.lemmas.List.Elements.{All-nil, All-push}
use Rattle.std.proofs.lemmas.Str.{IsCharBoundary-before_ascii}
use Rattle.lic_words.specs.Words.{Word, blank}
use Rattle.lic_tokens.specs.Tokens.{TokenValue}
use Rattle.lic_tokens.specs.Places.{place_end}
use Rattle.lic_places.specs.Places.{OverBlank, over, spelling_of, stays}
use Rattle.lic_places.specs.Reads.{Reads}
use Rattle.lic_spans.specs.declared.span.SpanKind.{SpanKind}
use Rattle.lic_spans.specs.declared.span.SpanKind.TheVariants.{Place}
use Rattle.lic_spans.specs.declared.span.PlaceSpan.{PlaceSpan}
use Rattle.lic_view.specs.PlaceSets.{ArePlaced, IsPlaceOf, LiesBefore, Reaches}
use Rattle.lic_view.specs.Backward.{IsBackFrom}
use Rattle.lic_view.proofs.PlaceLaws.{blank-one}
use Rattle.lic_view.proofs.Back.{Beats-same, OverBlank-order, back-nothing}
use Rattle.lic_view.proofs.BlankLemmas.{IsBlank, blank-read, held, holds-one}
use Rattle.lic_view.proofs.Numbers.{At}
use Rattle.lic_view.specs.declared.sets.keep.Keep.{Keep}

-- one place, with its last token
abbrev pub single : ℕ → ℕ → PlaceSpan
single p last = record { low = p; high = p; last = last; kind = Place }

pub single-reaches : (tokens : List TokenValue) (p last : ℕ) → Reaches tokens (single p last ∷ []) p last
single-reaches tokens p last = record { kind = Place; number = p; holds = holds-one (single p last) p (omega arith) (omega arith); place = refl }

pub single-reached : (tokens : List TokenValue) (p last p' last' : ℕ) → Reaches tokens (single p last ∷ []) p' last' → (p' ≡ p) × (last' ≡ last)
single-reached tokens p last p' last' r =
    let h = held (single p last) r.kind r.number last' r.holds in
    let place = subst (λ k. IsPlaceOf tokens k r.number p') (sym h.0) r.place in
    (omega (arith, place, h.1, h.2), sym h.3)

single-placed : (tokens : List TokenValue) (p last : ℕ) → last < length tokens → p < place_end tokens last → IsCharBoundary (spelling_of tokens) p →
    ArePlaced tokens (single p last ∷ [])
single-placed tokens p last within front whole = record {
  ordered = All-push (λ (s : PlaceSpan). s.low ≤ s.high) [] (single p last) (All-nil (λ (s : PlaceSpan). s.low ≤ s.high)) (omega arith);
  last = All-push (λ (s : PlaceSpan). s.last < length tokens) [] (single p last) (All-nil (λ (s : PlaceSpan). s.last < length tokens)) within;
  front = λ kind number l holds. fronts kind number l (held (single p last) kind number l holds);
}
  where
    fronts : (kind : SpanKind) (number l : ℕ) → (Place ≡ kind) × (p ≤ number) × (number ≤ p) × (last ≡ l) → LiesBefore tokens kind number l
    fronts kind number l h =
        let same : p ≡ number = omega (arith, h.1, h.2) in
        subst (λ x. LiesBefore tokens kind number x) h.3
        (subst (λ k. LiesBefore tokens k number last) h.0
        (subst (λ n. LiesBefore tokens Place n last) same (front, whole)))

-- From one place a word of the set leads to one place.
pub back-single : (keep : Keep) (tokens : List TokenValue) (P : Word → Type 0) (Ends : ℕ → ℕ → Type 0) (p q last : ℕ) (w : Word) →
    last < length tokens → p < place_end tokens last → IsCharBoundary (spelling_of tokens) p →
    Ends q last → ((r l : ℕ) → Ends r l → (r ≡ q) × (l ≡ last)) →
    P w → Reads tokens p w q → ((r : ℕ) (v : Word) → P v → Reads tokens r v q → r ≡ p) →
    IsBackFrom keep tokens P Ends (single p last ∷ [])
back-single keep tokens P Ends p q last w within front whole end ends is reads one = record {
  placed = single-placed tokens p last within front whole;
  sound = λ r l reached.
      let same = single-reached tokens p last r l reached in
      (q, subst (λ x. Ends q x) (sym same.1) end, w, is, subst (λ x. Reads tokens x w q) (sym same.0) reads);
  complete = λ r s l v e has read.
      let same = ends s l e in
      let at = one r v has (subst (λ x. Reads tokens r v x) same.0 read) in (
        l,
        Beats-same keep tokens r l,
        subst (λ x. Reaches tokens (single p last ∷ []) r x) (sym same.1)
            (subst (λ x. Reaches tokens (single p last ∷ []) x last) (sym at) (single-reaches tokens p last)),
      );
}

-- a blank leads from a place to a place of the text
blank-whole : (tokens : List TokenValue) (p q : ℕ) → IsCharBoundary (spelling_of tokens) q → OverBlank tokens p q → IsCharBoundary (spelling_of tokens) p
blank-whole tokens p _ whole (stays not gap) = whole
blank-whole tokens p _ whole (over is) =
    let byte : get_or (spelling_of tokens) p 0 ≡ 0x20 = eqb-true (get_or (spelling_of tokens) p 0) 0x20 is in
    IsCharBoundary-before_ascii (spelling_of tokens) p (omega (arith, whole.0)) (omega (arith, byte))

-- where a blank leads from one place
pub back-blank : (keep : Keep) (tokens : List TokenValue) (span : PlaceSpan) (number p : ℕ) → span.last < length tokens → span.kind ≡ Place →
    LiesBefore tokens Place number span.last → OverBlank tokens p number →
    IsBackFrom keep tokens IsBlank (At tokens span number) (single p span.last ∷ [])
back-blank keep tokens span number p within is front leads =
    back-single keep tokens IsBlank (At tokens span number) p number span.last (blank ∷ []) within
    (let order = OverBlank-order tokens p number leads in omega (arith, front.0))
    (blank-whole tokens p number front.1 leads)
    (refl, subst (λ k. IsPlaceOf tokens k number number) (sym is) refl)
    (λ r l e. (subst (λ k. IsPlaceOf tokens k number r) is e.1, e.0))
    refl
    ((blank-read tokens p number).1 leads)
    (λ r v has reads. blank-one tokens r p number ((blank-read tokens r number).0 (subst (λ x. Reads tokens r x number) has reads)) leads)

-- where a blank leads nowhere
pub back-no_blank : (keep : Keep) (tokens : List TokenValue) (span : PlaceSpan) (number : ℕ) → span.kind ≡ Place → ((p : ℕ) → ¬ (OverBlank tokens p number)) →
    IsBackFrom keep tokens IsBlank (At tokens span number) []
back-no_blank keep tokens span number is none = back-nothing keep tokens IsBlank (At tokens span number)
    (λ p q l w e has reads.
    let same : q ≡ number = subst (λ k. IsPlaceOf tokens k number q) is e.1 in
    none p (subst (λ x. OverBlank tokens p x) same ((blank-read tokens p q).0 (subst (λ x. Reads tokens p x q) has reads))))
