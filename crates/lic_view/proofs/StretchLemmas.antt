-- The stretches in which the places of spans of many places lie, and places that are listed stretch by stretch.
use Rattle.std.proofs.Common.{◌≡◌, ◌⊎◌, ◌↔◌, ℕ, ◌+◌, ◌-◌, ◌<◌, ◌≤◌, List, [], ◌∷◌, ◌++◌, length, refl, sym, ap, ◌∙◌, subst, arith, get_or, take}
use Rattle.std.specs.Prelude.{All, AllPairs, Contains}
use Rattle.std.specs.List.Sorted.{IsStrictlyIncreasing}
use Rattle.std.proofs.Math.Logic.{⊎_elim}
use Rattle.std.proofs.lemmas.Bool.{cases_lt}
use Rattle.std.proofs.lemmas.List.{get_or-append_right, get_or-take, get_or_append_left, get_or_default, length-append, length-take-le, take_all, take_more}
use Rattle.std.proofs.lemmas.List.Elements.{All-contains, Contains-append_cases, Contains-append_left, Contains-append_right, Contains-get_or, Contains-push, Contains-push_cases}
use Rattle.lic_tokens.specs.Tokens.{TokenValue}
use Rattle.lic_places.specs.Places.{spelling_of}
use Rattle.lic_spans.specs.Spans.{AreApartOfLast, Holds, gap_of}
use Rattle.lic_spans.specs.declared.span.SpanKind.{SpanKind}
use Rattle.lic_spans.specs.declared.span.SpanKind.TheVariants.{Letters}
use Rattle.lic_spans.specs.declared.span.PlaceSpan.{PlaceSpan}
use Rattle.lic_spans.proofs.Members.{Holds-member}
use Rattle.lic_view.specs.PlaceSets.{ArePlaced}
use Rattle.lic_view.proofs.ViewPlaces.{end-within}
use Rattle.lic_view.proofs.ViewSpans.{front-to}
use Rattle.lic_view.specs.Wide.{AreStretchesOf, AreThoseIn, HoldThoseOf, LiesIn, stretch_of}

-- ---- the stretch of each span of many places

pub record AreStretched (spans stretches : List PlaceSpan) : Type 0 where
  pub all : (span : PlaceSpan) → Contains spans span → gap_of span.kind ≡ 1 → Contains stretches (stretch_of span)
  pub sound : (s : PlaceSpan) → Contains stretches s → (span : PlaceSpan) × Contains spans span × (s ≡ stretch_of span)

pub stretched-none : (stretches : List PlaceSpan) → stretches ≡ [] → AreStretched [] stretches
stretched-none stretches none = record {
  all = λ span among wide. absurd (omega (arith, among.1));
  sound = λ s among. absurd (let gone = subst (λ x. Contains x s) none among in omega (arith, gone.1));
}

module _ (spans old : List PlaceSpan) (i : ℕ) (d : PlaceSpan) (below : i < length spans) (are : AreStretched (take i spans) old) where
  parts : (s : PlaceSpan) → Contains (take (i + 1) spans) s → Contains (take i spans) s ⊎ (get_or spans i d ≡ s)
  parts s among = Contains-push_cases (take i spans) (get_or spans i d) s (subst (λ x. Contains x s) (take_more spans i d below) among)

  earlier : (s : PlaceSpan) → Contains (take i spans) s → Contains (take (i + 1) spans) s
  earlier s among = subst (λ x. Contains x s) (sym (take_more spans i d below)) (Contains-append_left (take i spans) (get_or spans i d ∷ []) s among)

  here : Contains (take (i + 1) spans) (get_or spans i d)
  here = subst (λ x. Contains x (get_or spans i d)) (sym (take_more spans i d below)) (Contains-push (take i spans) (get_or spans i d))

  -- a span of many places more
  pub stretched-more : (new : List PlaceSpan) → new ≡ old ++ stretch_of (get_or spans i d) ∷ [] → AreStretched (take (i + 1) spans) new
  stretched-more new is = record {
    all = λ span among wide. subst (λ x. Contains x (stretch_of span)) (sym is)
        (⊎_elim (λ before. Contains-append_left old (stretch_of (get_or spans i d) ∷ []) (stretch_of span) (are.all span before wide))
        (λ (same : get_or spans i d ≡ span). subst (λ x. Contains (old ++ stretch_of (get_or spans i d) ∷ []) (stretch_of x)) same (Contains-push old (stretch_of (get_or spans i d))))
        (parts span among));
    sound = λ s among.
        ⊎_elim (λ before. let one = are.sound s before in (one.0, earlier one.0 one.1, one.2))
        (λ (same : stretch_of (get_or spans i d) ≡ s). (get_or spans i d, here, sym same))
        (Contains-push_cases old (stretch_of (get_or spans i d)) s (subst (λ x. Contains x s) is among));
  }

  -- a span of one place more
  pub stretched-single : (gap_of (get_or spans i d).kind ≡ 1 → ⊥) → AreStretched (take (i + 1) spans) old
  stretched-single one = record {
    all = λ span among wide.
        ⊎_elim (λ before. are.all span before wide)
        (λ (same : get_or spans i d ≡ span). absurd (one (subst (λ x. gap_of x.kind ≡ 1) (sym same) wide)))
        (parts span among);
    sound = λ s among. let one = are.sound s among in (one.0, earlier one.0 one.1, one.2);
  }

-- stretches end no earlier than they begin
pub stretched-ordered : (spans stretches : List PlaceSpan) → All (λ s. s.low ≤ s.high) spans → AreStretched spans stretches → All (λ s. s.low ≤ s.high) stretches
stretched-ordered spans stretches ordered are = λ k d low.
    let one = are.sound (get_or stretches k d) (Contains-get_or stretches k d low) in
    let order : one.0.low ≤ one.0.high = All-contains (λ (s : PlaceSpan). s.low ≤ s.high) spans one.0 ordered one.1 in
    subst (λ (s : PlaceSpan). s.low ≤ s.high) (sym one.2) (omega arith)

-- a stretch that ends no later than a span
record IsFrom (spans : List PlaceSpan) (s : PlaceSpan) : Type 0 where
  kind : s.kind ≡ Letters
  last : s.last ≡ 0
  span : PlaceSpan
  among : Contains spans span
  high : s.high ≤ span.high

-- the same joined where they overlap
pub stretches-joined : (spans stretches joined : List PlaceSpan) → AreStretched spans stretches →
    ((kind : SpanKind) (place last : ℕ) → Holds joined kind place last ↔ Holds stretches kind place last) →
    AreApartOfLast joined → All (λ s. s.low ≤ s.high) joined → AreStretchesOf spans joined
stretches-joined spans stretches joined are same apart ordered = record {
  apart = λ i j d before low.
      let one = from (get_or joined i d) (Contains-get_or joined i d (omega arith)) in
      let other = from (get_or joined j d) (Contains-get_or joined j d low) in
      let pair = apart i j d before low in
      pair.places (one.kind ∙ sym other.kind) (one.last ∙ sym other.last);
  ordered = ordered;
  within = λ s among. let one = from s among in (one.span, one.among, one.high);
  all = λ span place among wide low high.
      let member = are.all span among wide in
      let held = (same Letters place 0).1 (Holds-member stretches (stretch_of span) member place (omega arith) high) in
      record { stretch = held.span; among = held.among; from = held.from; to = held.to };
}
  where
    from : (s : PlaceSpan) → Contains joined s → IsFrom spans s
    from s among =
        let order : s.low ≤ s.high = All-contains (λ (t : PlaceSpan). t.low ≤ t.high) joined s ordered among in
        let held = (same s.kind s.high s.last).0 (Holds-member joined s among s.high order (omega arith)) in
        let one = are.sound held.span held.among in
        record {
          kind = sym held.kind_is ∙ ap (λ (t : PlaceSpan). t.kind) one.2;
          last = sym held.last_is ∙ ap (λ (t : PlaceSpan). t.last) one.2;
          span = one.0;
          among = one.1;
          high = subst (λ (t : PlaceSpan). s.high ≤ t.high) one.2 held.to;
        }

-- ---- places that are listed stretch by stretch

-- two lists in rising order, one after the other
rising-joined : (xs ys : List ℕ) → IsStrictlyIncreasing xs → IsStrictlyIncreasing ys → ((x y : ℕ) → Contains xs x → Contains ys y → x < y) → IsStrictlyIncreasing (xs ++ ys)
rising-joined xs ys first second below = λ k low.
    let size : length (xs ++ ys) ≡ length xs + length ys = length-append xs ys in
    ⊎_elim
    (λ (inner : k + 1 < length xs).
    let one : get_or (xs ++ ys) k 0 ≡ get_or xs k 0 = get_or_append_left xs ys 0 k (omega arith) in
    let other : get_or (xs ++ ys) (k + 1) 0 ≡ get_or xs (k + 1) 0 = get_or_append_left xs ys 0 (k + 1) inner in
    omega (arith, one, other, first k inner))
    (λ (outer : length xs ≤ k + 1).
    let other : get_or (xs ++ ys) (k + 1) 0 ≡ get_or ys (k + 1 - length xs) 0 = get_or-append_right xs ys (length xs) (k + 1) 0 refl outer in
    ⊎_elim
    (λ (seam : k < length xs).
    let one : get_or (xs ++ ys) k 0 ≡ get_or xs k 0 = get_or_append_left xs ys 0 k seam in
    omega (arith, one, other, below (get_or xs k 0) (get_or ys (k + 1 - length xs) 0) (Contains-get_or xs k 0 seam) (Contains-get_or ys (k + 1 - length xs) 0 (omega arith))))
    (λ (past : length xs ≤ k).
    let one : get_or (xs ++ ys) k 0 ≡ get_or ys (k - length xs) 0 = get_or-append_right xs ys (length xs) k 0 refl past in
    let m : ℕ = k - length xs in
    let next : k + 1 - length xs ≡ m + 1 = omega arith in
    let up : get_or ys m 0 < get_or ys (m + 1) 0 = second m (omega arith) in
    let same : get_or ys (k + 1 - length xs) 0 ≡ get_or ys (m + 1) 0 = ap (λ n. get_or ys n 0) next in
    omega arith)
    (cases_lt k (length xs)))
    (cases_lt (k + 1) (length xs))

pub those-none : (Meant : ℕ → Type 0) (places : List ℕ) → places ≡ [] → AreThoseIn Meant [] places
those-none Meant places none = record {
  rising = λ k low. absurd (let long = ap length none in omega arith);
  exact = λ place. (
    λ among. absurd (let gone = subst (λ x. Contains x place) none among in omega (arith, gone.1)),
    λ lies. absurd (let gone = lies.0.among in omega (arith, gone.1)),
  );
}

-- the places of one stretch more
pub those-more : (Meant : ℕ → Type 0) (stretches : List PlaceSpan) (i : ℕ) (d : PlaceSpan) (old more new : List ℕ) → i < length stretches →
    AllPairs (λ before after. before.high < after.low) stretches → AreThoseIn Meant (take i stretches) old → IsStrictlyIncreasing more →
    ((place : ℕ) → Contains more place ↔ (((get_or stretches i d).low ≤ place) × (place ≤ (get_or stretches i d).high) × Meant place)) →
    new ≡ old ++ more → AreThoseIn Meant (take (i + 1) stretches) new
those-more Meant stretches i d old more new below apart are rising exact is = record {
  rising = subst IsStrictlyIncreasing (sym is) (rising-joined old more are.rising rising (λ x y first second. less x y ((are.exact x).0 first).0 ((exact y).0 second)));
  exact = λ place. (
    λ among. ⊎_elim
        (λ first. let was = (are.exact place).0 first in (earlier place was.0, was.1))
        (λ second. let found = (exact place).0 second in (record { stretch = this; among = here; from = found.0; to = found.1 }, found.2))
        (Contains-append_cases old more place (subst (λ x. Contains x place) is among)),
    λ lies. subst (λ x. Contains x place) (sym is)
        (⊎_elim
        (λ before. Contains-append_left old more place ((are.exact place).1 (record { stretch = lies.0.stretch; among = before; from = lies.0.from; to = lies.0.to }, lies.1)))
        (λ (same : this ≡ lies.0.stretch).
        let from : this.low ≤ place = subst (λ (s : PlaceSpan). s.low ≤ place) (sym same) lies.0.from in
        let to : place ≤ this.high = subst (λ (s : PlaceSpan). place ≤ s.high) (sym same) lies.0.to in
        Contains-append_right old more place ((exact place).1 (from, to, lies.1)))
        (Contains-push_cases (take i stretches) this lies.0.stretch (subst (λ x. Contains x lies.0.stretch) (take_more stretches i d below) lies.0.among))),
  );
}
  where
    this : PlaceSpan
    this = get_or stretches i d

    here : Contains (take (i + 1) stretches) this
    here = subst (λ x. Contains x this) (sym (take_more stretches i d below)) (Contains-push (take i stretches) this)

    earlier : (place : ℕ) → LiesIn (take i stretches) place → LiesIn (take (i + 1) stretches) place
    earlier place lies = record {
      stretch = lies.stretch;
      among = subst (λ x. Contains x lies.stretch) (sym (take_more stretches i d below)) (Contains-append_left (take i stretches) (this ∷ []) lies.stretch lies.among);
      from = lies.from;
      to = lies.to;
    }

    less : (x y : ℕ) → LiesIn (take i stretches) x → (this.low ≤ y) × (y ≤ this.high) × Meant y → x < y
    less x y lies found =
        let s : PlaceSpan = lies.stretch in
        let k : ℕ = lies.among.0 in
        let long : length (take i stretches) ≡ i = length-take-le i stretches (omega arith) in
        let low : k < i = omega (arith, lies.among.1) in
        let same : get_or stretches k s ≡ s = sym (get_or-take i stretches k s low) ∙ lies.among.2 in
        let next : get_or stretches i s ≡ this = get_or_default stretches i s d below in
        let pair : (get_or stretches k s).high < (get_or stretches i s).low = apart k i s low below in
        let up : s.high < this.low = subst (λ (t : PlaceSpan). s.high < t.low) next (subst (λ (t : PlaceSpan). t.high < (get_or stretches i s).low) same pair) in
        omega (arith, lies.to, found.0)

-- all of the stretches
pub those-all : (Meant : ℕ → Type 0) (stretches : List PlaceSpan) (i : ℕ) (places : List ℕ) → length stretches ≤ i → AreThoseIn Meant (take i stretches) places →
    AreThoseIn Meant stretches places
those-all Meant stretches i places all are = subst (λ x. AreThoseIn Meant x places) (take_all i stretches all) are

-- those of the stretches of all spans are those of each span of many places
pub those-of : (Meant : ℕ → Type 0) (spans stretches : List PlaceSpan) (places : List ℕ) (span : PlaceSpan) → AreStretchesOf spans stretches →
    AreThoseIn Meant stretches places → Contains spans span → gap_of span.kind ≡ 1 → HoldThoseOf Meant span places
those-of Meant spans stretches places span are those among wide = record {
  rising = those.rising;
  sound = λ place member. ((those.exact place).0 member).1;
  all = λ place low high meant. (those.exact place).1 (are.all span place among wide low high, meant);
}

-- a stretch of placed spans lies in the text
pub stretch-within : (tokens : List TokenValue) (spans stretches : List PlaceSpan) (i : ℕ) (d : PlaceSpan) → ArePlaced tokens spans → AreStretchesOf spans stretches → i < length stretches →
    (get_or stretches i d).high ≤ length (spelling_of tokens)
stretch-within tokens spans stretches i d placed are low =
    let (span, among, up) = are.within (get_or stretches i d) (Contains-get_or stretches i d low) in
    let order : span.low ≤ span.high = All-contains (λ (t : PlaceSpan). t.low ≤ t.high) spans span placed.ordered among in
    let front = placed.front span.kind span.high span.last (Holds-member spans span among span.high order (omega arith)) in
    let token : span.last < length tokens = All-contains (λ (t : PlaceSpan). t.last < length tokens) spans span placed.last among in
    omega (arith, up, front-to tokens span.kind span.high span.last front, end-within tokens span.last token)
