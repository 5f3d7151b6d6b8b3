-- Which tokens end a list of spans, and with which tokens words begin at the places of a list.
use Rattle.std.proofs.Common.{◌≡◌, ◌⊎◌, ◌↔◌, inl, inr, ℕ, ◌+◌, ◌<◌, ◌≤◌, List, [], ◌∷◌, ◌++◌, length, get_or, refl, sym, ap, ◌∙◌, subst, arith}
use Rattle.std.specs.List.{Contains}
use Rattle.std.proofs.lemmas.Bool.{cases_lt}
use Rattle.std.proofs.lemmas.List.Elements.{All-cons, All-contains, All-nil, Contains-append_left, Contains-get_or, Contains-push, Contains-push_cases}
use Rattle.lic_norm.specs.Tokens.{TokenValue}
use Rattle.lic_norm.specs.Places.{place_end}
use Rattle.lic_spans.specs.Spans.{Holds}
use Rattle.lic_spans.specs.declared.span.SpanKind.{SpanKind}
use Rattle.lic_spans.specs.declared.span.SpanKind.TheVariants.{End}
use Rattle.lic_spans.specs.declared.span.PlaceSpan.{PlaceSpan}
use Rattle.lic_search.specs.declared.range.Range.{Range}
use Rattle.lic_view.specs.PlaceSets.{ArePlaced, IsPlaceOf, LiesBefore, Reaches}
use Rattle.lic_search.specs.Beginnings.{BeginsIn, IsEndOf, IsLastBeginning}
use Rattle.lic_search.proofs.MatchSpans.{GivesPlace-from, one-only}

-- ---- the ends of tokens

-- the spans are the ends of the first `count` tokens
pub record AreEnds (tokens : List TokenValue) (count : ℕ) (ends : List PlaceSpan) : Type 0 where
  pub sound : (span : PlaceSpan) → Contains ends span → (last : ℕ) × (last < count) × IsEndOf tokens last span
  pub all : (last : ℕ) → last < count → (span : PlaceSpan) × Contains ends span × IsEndOf tokens last span

pub AreEnds-push : (tokens : List TokenValue) (count : ℕ) (ends : List PlaceSpan) (span : PlaceSpan)
    → AreEnds tokens count ends → IsEndOf tokens count span → AreEnds tokens (count + 1) (ends ++ span ∷ [])
AreEnds-push tokens count ends span are here = record {
  sound = λ other among.
      elim (Contains-push_cases ends span other among) [
        | inl earlier ↦ let found = are.sound other earlier in (found.0, omega (arith, found.1), found.2)
        | inr same ↦ (count, omega arith, subst (λ s. IsEndOf tokens count s) same here)
      ];
  all = λ last below.
      elim (cases_lt last count) [
        | inl less ↦ let found = are.all last less in (found.0, Contains-append_left ends (span ∷ []) found.0 found.1, found.2)
        | inr le ↦
            let same : count ≡ last = omega arith in
            (span, Contains-push ends span, subst (λ n. IsEndOf tokens n span) same here)
      ];
}

-- what the ends of tokens hold
ends-held : (tokens : List TokenValue) (count : ℕ) (ends : List PlaceSpan) (kind : SpanKind) (number last : ℕ) → AreEnds tokens count ends
    → Holds ends kind number last → (kind ≡ End) × (last < count) × (number ≡ place_end tokens last)
ends-held tokens count ends kind number last are holds =
    let found = are.sound holds.span holds.among in
    let is = found.2 in
    let same : found.0 ≡ last = sym is.last_is ∙ holds.last_is in (
      sym holds.kind_is ∙ is.kind,
      omega (arith, found.1, same),
      omega (arith, holds.from, holds.to, is.low, is.high, ap (λ n. place_end tokens n) same),
    )

end-in-front : (tokens : List TokenValue) (kind : SpanKind) (number last : ℕ) → kind ≡ End → number ≡ place_end tokens last → LiesBefore tokens kind number last
end-in-front tokens kind number last is at = subst (λ k. LiesBefore tokens k number last) (sym is) at

pub AreEnds-placed : (tokens : List TokenValue) (ends : List PlaceSpan) → AreEnds tokens (length tokens) ends → ArePlaced tokens ends
AreEnds-placed tokens ends are = record {
  ordered = λ k d within.
      let is = (are.sound (get_or ends k d) (Contains-get_or ends k d within)).2 in
      omega (arith, is.low, is.high);
  last = λ k d within.
      let found = are.sound (get_or ends k d) (Contains-get_or ends k d within) in
      omega (arith, found.1, found.2.last_is);
  front = λ kind number last holds.
      let held = ends-held tokens (length tokens) ends kind number last are holds in
      end-in-front tokens kind number last held.0 held.2;
}

pub AreEnds-all : (tokens : List TokenValue) (ends : List PlaceSpan) (p last : ℕ) → AreEnds tokens (length tokens) ends
    → Reaches tokens ends p last ↔ ((last < length tokens) × (p ≡ place_end tokens last))
AreEnds-all tokens ends p last are = (
  λ reached.
      let held = ends-held tokens (length tokens) ends reached.kind reached.number last are reached.holds in
      let place : IsPlaceOf tokens End reached.number p = subst (λ k. IsPlaceOf tokens k reached.number p) held.0 reached.place in
      (held.1, place ∙ held.2),
  λ given.
      let found = are.all last given.0 in
      let is = found.2 in
      let holds : Holds ends End p last =
      record { span = found.0; among = found.1; kind_is = is.kind; from = omega (arith, is.low, given.1); to = omega (arith, is.high, given.1); last_is = is.last_is } in
      record { kind = End; number = p; holds = holds; place = refl },
)

-- ---- ranges

-- within the range up to a last token lies one that was found
pub record IsAround (found : List Range) (first last : ℕ) : Type 0 where
  pub range : Range
  pub among : Contains found range
  pub from : first ≤ range.first
  pub to : range.last ≤ last

-- the ranges begin in the spans, and around each that begins in the first of the spans lies one of them
pub record AreRanges (tokens : List TokenValue) (spans taken : List PlaceSpan) (found : List Range) : Type 0 where
  pub sound : (range : Range) → Contains found range → BeginsIn tokens spans range.first range.last
  pub within : (first last : ℕ) → BeginsIn tokens taken first last → IsAround found first last

-- from one span to a list that has it
pub BeginsIn-among : (tokens : List TokenValue) (spans : List PlaceSpan) (span : PlaceSpan) (first last : ℕ) → Contains spans span
    → BeginsIn tokens (span ∷ []) first last → BeginsIn tokens spans first last
BeginsIn-among tokens spans span first last among begins =
    let given = GivesPlace-from tokens span begins.place last begins.reached in
    let holds : Holds spans span.kind given.number last =
    record { span = span; among = among; kind_is = refl; from = given.from; to = given.to; last_is = given.last_is } in
    record {
      order = begins.order;
      place = begins.place;
      reached = record { kind = span.kind; number = given.number; holds = holds; place = given.place };
      begins = begins.begins;
    }

-- in a list with one span more
pub BeginsIn-push : (tokens : List TokenValue) (spans : List PlaceSpan) (span : PlaceSpan) (first last : ℕ) → BeginsIn tokens (spans ++ span ∷ []) first last
    → BeginsIn tokens spans first last ⊎ (BeginsIn tokens (span ∷ []) first last × (span.last ≡ last))
BeginsIn-push tokens spans span first last begins =
    let reached = begins.reached in
    let holds = reached.holds in
    let with-spans = λ (xs : List PlaceSpan) (among : Contains xs holds.span).
    let held : Holds xs reached.kind reached.number last =
    record { span = holds.span; among = among; kind_is = holds.kind_is; from = holds.from; to = holds.to; last_is = holds.last_is } in
    let reaches : Reaches tokens xs begins.place last = record { kind = reached.kind; number = reached.number; holds = held; place = reached.place } in
    let all : BeginsIn tokens xs first last = record { order = begins.order; place = begins.place; reached = reaches; begins = begins.begins } in
    all in
    elim (Contains-push_cases spans span holds.span holds.among) [
      | inl earlier ↦ inl (with-spans spans earlier)
      | inr same ↦ inr (with-spans (span ∷ []) (0, omega arith, same), ap (λ (s : PlaceSpan). s.last) same ∙ holds.last_is)
    ]

-- one span has its places in the text
pub ArePlaced-one : (tokens : List TokenValue) (spans : List PlaceSpan) (span : PlaceSpan) → ArePlaced tokens spans → Contains spans span → ArePlaced tokens (span ∷ [])
ArePlaced-one tokens spans span placed among = record {
  ordered = All-cons (λ s. s.low ≤ s.high) span [] (All-contains (λ s. s.low ≤ s.high) spans span placed.ordered among) (All-nil (λ s. s.low ≤ s.high));
  last = All-cons (λ s. s.last < length tokens) span [] (All-contains (λ s. s.last < length tokens) spans span placed.last among) (All-nil (λ s. s.last < length tokens));
  front = λ kind number last holds.
      let same = one-only span holds.span holds.among in
      let held : Holds spans kind number last =
      record { span = holds.span; among = subst (Contains spans) same among; kind_is = holds.kind_is; from = holds.from; to = holds.to; last_is = holds.last_is } in
      placed.front kind number last held;
}

-- ---- one range more

-- where a span begins no range
pub AreRanges-none : (tokens : List TokenValue) (spans taken : List PlaceSpan) (found : List Range) (span : PlaceSpan) → AreRanges tokens spans taken found
    → ((first : ℕ) → ¬ BeginsIn tokens (span ∷ []) first span.last) → AreRanges tokens spans (taken ++ span ∷ []) found
AreRanges-none tokens spans taken found span are none = record {
  sound = are.sound;
  within = λ first last begins.
      elim (BeginsIn-push tokens taken span first last begins) [
        | inl earlier ↦ are.within first last earlier
        | inr here ↦ absurd (none first (subst (λ l. BeginsIn tokens (span ∷ []) first l) (sym here.1) here.0))
      ];
}

-- where it begins ranges, the one that begins last is added
pub AreRanges-some : (tokens : List TokenValue) (spans taken : List PlaceSpan) (found : List Range) (span : PlaceSpan) (range : Range)
    → AreRanges tokens spans taken found → Contains spans span → IsLastBeginning tokens span range
    → AreRanges tokens spans (taken ++ span ∷ []) (found ++ range ∷ [])
AreRanges-some tokens spans taken found span range are among last = record {
  sound = λ other contained.
      elim (Contains-push_cases found range other contained) [
        | inl earlier ↦ are.sound other earlier
        | inr same ↦
            let at : BeginsIn tokens (span ∷ []) range.first range.last = subst (λ l. BeginsIn tokens (span ∷ []) range.first l) (sym last.last) last.begins in
            subst (λ r. BeginsIn tokens spans r.first r.last) same (BeginsIn-among tokens spans span range.first range.last among at)
      ];
  within = λ first end begins.
      elim (BeginsIn-push tokens taken span first end begins) [
        | inl earlier ↦
            let around = are.within first end earlier in
            record { range = around.range; among = Contains-append_left found (range ∷ []) around.range around.among; from = around.from; to = around.to }
        | inr here ↦
            let at : BeginsIn tokens (span ∷ []) first span.last = subst (λ l. BeginsIn tokens (span ∷ []) first l) (sym here.1) here.0 in
            record { range = range; among = Contains-push found range; from = last.greatest first at; to = omega (arith, last.last, here.1) }
      ];
}
