-- With which tokens words begin at the places of one span.
use Rattle.std.proofs.Common.{◌≡◌, ◌≢◌, ◌⊎◌, ◌↔◌, inl, inr, ℕ, zero, suc, ◌+◌, ◌-◌, ◌<◌, ◌≤◌, List, [], ◌∷◌, length, get_or, refl, sym, ap, ◌∙◌, subst, arith, IsTrue}
use Rattle.std.specs.List.{Contains}
use Rattle.std.proofs.Math.Nat.{eq-or-lt_of_le}
use Rattle.std.proofs.lemmas.Bool.{cases_lt, true≢false}
use Rattle.lic_norm.specs.Tokens.{TokenValue}
use Rattle.lic_norm.specs.Places.{place_end, place_start}
use Rattle.lic_places.specs.Places.{AreTexts, HasGap, IsAfterBlank, is_blank_at, spelling_of}
use Rattle.lic_places.specs.Reads.{BeginsAt}
use Rattle.lic_spans.specs.declared.span.SpanKind.{SpanKind}
use Rattle.lic_spans.specs.declared.span.SpanKind.TheVariants.{End, Place, Letters, Blanks}
use Rattle.lic_spans.specs.declared.span.PlaceSpan.{PlaceSpan}
use Rattle.lic_view.specs.PlaceSets.{ArePlaced, IsLetterPlace, IsPlaceOf, LiesBefore, Reaches}
use Rattle.lic_search.specs.Beginnings.{BeginsIn, LiesWithin}
use Rattle.lic_view.specs.Views.{IsFirstFrom}
use Rattle.lic_view.proofs.Laws.{no_blank-end, no_blank-start, tokens_are_at-first, tokens_are_at-order}
use Rattle.lic_view.proofs.ViewBlanks.{over_blank-cases}
use Rattle.lic_view.proofs.ViewPlaces.{ends-order, starts-order}
use Rattle.lic_view.proofs.ViewSpans.{Holds-one, last-one}
use Rattle.lic_search.proofs.MatchStarts.{past-blank, blank-before, letter-no_blank, start-letter, start-order}

-- ---- one span

one-same : (span s : PlaceSpan) (k : ℕ) → k < length (span ∷ []) → get_or (span ∷ []) k s ≡ s → span ≡ s
one-same span s zero within same = same
one-same span s (suc k) within same = absurd (omega arith)

-- a list of one span has no other
pub one-only : (span s : PlaceSpan) → Contains (span ∷ []) s → span ≡ s
one-only span s among = one-same span s among.0 among.1 among.2

-- a number of a span and the place that it gives
pub record GivesPlace (tokens : List TokenValue) (span : PlaceSpan) (p last : ℕ) : Type 0 where
  pub number : ℕ
  pub from : span.low ≤ number
  pub to : number ≤ span.high
  pub place : IsPlaceOf tokens span.kind number p
  pub last_is : span.last ≡ last

pub GivesPlace-from : (tokens : List TokenValue) (span : PlaceSpan) (p last : ℕ) → Reaches tokens (span ∷ []) p last → GivesPlace tokens span p last
GivesPlace-from tokens span p last reached =
    let holds = reached.holds in
    let same = one-only span holds.span holds.among in
    let kind : span.kind ≡ reached.kind = ap (λ (s : PlaceSpan). s.kind) same ∙ holds.kind_is in
    record {
      number = reached.number;
      from = omega (arith, ap (λ (s : PlaceSpan). s.low) same, holds.from);
      to = omega (arith, ap (λ (s : PlaceSpan). s.high) same, holds.to);
      place = subst (λ k. IsPlaceOf tokens k reached.number p) (sym kind) reached.place;
      last_is = ap (λ (s : PlaceSpan). s.last) same ∙ holds.last_is;
    }

pub Reaches-one : (tokens : List TokenValue) (span : PlaceSpan) (number p : ℕ) → span.low ≤ number → number ≤ span.high
    → IsPlaceOf tokens span.kind number p → Reaches tokens (span ∷ []) p span.last
Reaches-one tokens span number p from to place = record { kind = span.kind; number = number; holds = Holds-one span number from to; place = place }

-- where a letter was taken, a number lies before the end of the last token
front-taken : (tokens : List TokenValue) (kind : SpanKind) (number last : ℕ) → kind ≢ End → LiesBefore tokens kind number last → number < place_end tokens last
front-taken tokens End number last taken at = absurd (taken refl)
front-taken tokens Place number last taken front = front.0
front-taken tokens Letters number last taken front = front
front-taken tokens Blanks number last taken front = front

pub high-before : (tokens : List TokenValue) (span : PlaceSpan) → ArePlaced tokens (span ∷ []) → span.kind ≢ End → span.high < place_end tokens span.last
high-before tokens span placed taken =
    let order : span.low ≤ span.high = placed.ordered 0 span (omega arith) in
    front-taken tokens span.kind span.high span.last taken (placed.front span.kind span.high span.last (Holds-one span span.high order (omega arith)))

-- and so does the place after a blank
pub high-blank : (tokens : List TokenValue) (span : PlaceSpan) → AreTexts tokens → ArePlaced tokens (span ∷ []) → span.kind ≢ End
    → IsTrue (is_blank_at (spelling_of tokens) span.high) → span.high + 1 < place_end tokens span.last
high-blank tokens span texts placed taken blank =
    let before : suc span.high ≤ place_end tokens span.last = omega (arith, high-before tokens span placed taken) in
    elim (eq-or-lt_of_le before) [
      | inl same ↦ absurd (no_blank-end tokens span.last texts (last-one tokens span placed) (span.high, sym same, blank))
      | inr less ↦ omega arith
    ]

-- ---- numbers and tokens

blanks-number : (tokens : List TokenValue) (number p first : ℕ) → AreTexts tokens → first < length tokens → IsLetterPlace tokens number
    → ((number ≡ suc p) × IsTrue (is_blank_at (spelling_of tokens) p))
    ⊎ ((p ≡ number) × ¬ (IsAfterBlank (spelling_of tokens) number) × HasGap tokens number)
    → BeginsAt tokens first p
    → (place_start tokens first ≡ number)
    ⊎ ((Blanks ≡ Place) × (place_start tokens first ≡ suc number) × IsTrue (is_blank_at (spelling_of tokens) number))
blanks-number tokens number p first texts within letter (inl over) (inl at) =
    let bytes = spelling_of tokens in
    absurd (true≢false (sym over.1 ∙ ap (λ n. is_blank_at bytes n) at ∙ no_blank-start tokens first texts within))
blanks-number tokens number p first texts within letter (inl over) (inr after) = inl (sym after.0 ∙ sym over.0)
blanks-number tokens number p first texts within letter (inr stays) (inl at) = inl (sym at ∙ stays.0)
blanks-number tokens number p first texts within letter (inr stays) (inr after) =
    let bytes = spelling_of tokens in
    absurd (letter-no_blank tokens number letter (subst (λ n. IsTrue (is_blank_at bytes n)) stays.0 (past-blank tokens p after.1)))

-- a place gives the token that begins there, or, if it is a blank, the one that begins after it
begin-number : (tokens : List TokenValue) (kind : SpanKind) (number p first : ℕ) → kind ≢ End → AreTexts tokens → first < length tokens
    → IsPlaceOf tokens kind number p → BeginsAt tokens first p
    → (place_start tokens first ≡ number)
    ⊎ ((kind ≡ Place) × (place_start tokens first ≡ suc number) × IsTrue (is_blank_at (spelling_of tokens) number))
begin-number tokens End number p first taken texts within place begins = absurd (taken refl)
begin-number tokens Place number p first taken texts within place (inl at) = inl (sym at ∙ place)
begin-number tokens Place number p first taken texts within place (inr after) =
    let bytes = spelling_of tokens in
    inr (refl, sym after.0 ∙ ap suc place, subst (λ n. IsTrue (is_blank_at bytes n)) place (past-blank tokens p after.1))
begin-number tokens Letters number p first taken texts within place (inl at) = inl (sym at ∙ place.0)
begin-number tokens Letters number p first taken texts within place (inr after) =
    let bytes = spelling_of tokens in
    absurd (letter-no_blank tokens number place.1 (subst (λ n. IsTrue (is_blank_at bytes n)) place.0 (past-blank tokens p after.1)))
begin-number tokens Blanks number p first taken texts within place begins =
    blanks-number tokens number p first texts within place.0 (over_blank-cases tokens p number place.1) begins

-- the places of the numbers at which tokens begin
number-begins : (tokens : List TokenValue) (kind : SpanKind) (first : ℕ) → kind ≢ End → AreTexts tokens → first < length tokens
    → (p : ℕ) × IsPlaceOf tokens kind (place_start tokens first) p × BeginsAt tokens first p
number-begins tokens End first taken texts within = absurd (taken refl)
number-begins tokens Place first taken texts within = (place_start tokens first, refl, inl refl)
number-begins tokens Letters first taken texts within = (place_start tokens first, (refl, start-letter tokens first texts within), inl refl)
number-begins tokens Blanks first taken texts within =
    let before = blank-before tokens first texts within in
    (before.0, (start-letter tokens first texts within, before.1), before.2)

-- ---- the last place

begins-at : (tokens : List TokenValue) (span : PlaceSpan) (first : ℕ) → AreTexts tokens → ArePlaced tokens (span ∷ []) → span.kind ≢ End → first < length tokens
    → LiesWithin span.low span.high (place_start tokens first) → BeginsIn tokens (span ∷ []) first span.last
begins-at tokens span first texts placed taken within inside =
    let begun = number-begins tokens span.kind first taken texts within in
    record {
      order = start-order tokens first span.last texts within (omega (arith, inside.to, high-before tokens span placed taken));
      place = begun.0;
      reached = Reaches-one tokens span (place_start tokens first) begun.0 inside.from inside.to begun.1;
      begins = begun.2;
    }

-- a token begins in the span, where this ends at no blank
pub begins-plain : (tokens : List TokenValue) (span : PlaceSpan) (first : ℕ) → AreTexts tokens → ArePlaced tokens (span ∷ []) → span.kind ≢ End
    → (span.kind ≡ Place → ¬ IsTrue (is_blank_at (spelling_of tokens) span.high)) → first < length tokens
    → BeginsIn tokens (span ∷ []) first span.last ↔ LiesWithin span.low span.high (place_start tokens first)
begins-plain tokens span first texts placed taken none within = (
  λ begins.
      let given = GivesPlace-from tokens span begins.place span.last begins.reached in
      elim (begin-number tokens span.kind given.number begins.place first taken texts within given.place begins.begins) [
        | inl at ↦ record { from = omega (arith, given.from, at); to = omega (arith, given.to, at) }
        | inr after ↦
            elim (eq-or-lt_of_le given.to) [
              | inl same ↦ absurd (none after.0 (subst (λ n. IsTrue (is_blank_at (spelling_of tokens) n)) same after.2))
              | inr less ↦ record { from = omega (arith, given.from, after.1); to = omega (arith, after.1) }
            ]
      ],
  λ inside. begins-at tokens span first texts placed taken within inside,
)

-- a token begins in the span or after the blank at which this ends
pub begins-over : (tokens : List TokenValue) (span : PlaceSpan) (first : ℕ) → AreTexts tokens → ArePlaced tokens (span ∷ [])
    → span.kind ≡ Place → span.kind ≢ End → IsTrue (is_blank_at (spelling_of tokens) span.high) → first < length tokens
    → BeginsIn tokens (span ∷ []) first span.last ↔ LiesWithin span.low (span.high + 1) (place_start tokens first)
begins-over tokens span first texts placed plain taken blank within = (
  λ begins.
      let given = GivesPlace-from tokens span begins.place span.last begins.reached in
      elim (begin-number tokens span.kind given.number begins.place first taken texts within given.place begins.begins) [
        | inl at ↦ record { from = omega (arith, given.from, at); to = omega (arith, given.to, at) }
        | inr after ↦ record { from = omega (arith, given.from, after.1); to = omega (arith, given.to, after.1) }
      ],
  λ inside.
      elim (cases_lt span.high (place_start tokens first)) [
        | inl above ↦
            let at : suc span.high ≡ place_start tokens first = omega (arith, inside.to) in
            let order : span.low ≤ span.high = placed.ordered 0 span (omega arith) in
            let place = subst (λ k. IsPlaceOf tokens k span.high span.high) (sym plain) refl in
            record {
              order = start-order tokens first span.last texts within (omega (arith, high-blank tokens span texts placed taken blank));
              place = span.high;
              reached = Reaches-one tokens span span.high span.high order (omega arith) place;
              begins = inr (at, (span.high, refl, blank));
            }
        | inr below ↦ begins-at tokens span first texts placed taken within (record { from = inside.from; to = below })
      ],
)

-- ---- the last token

-- a token that begins up to a place comes before the first one that begins after it
pub before-first : (tokens : List TokenValue) (place n i : ℕ) → IsFirstFrom (place_start tokens) (length tokens) (place + 1) n
    → i < length tokens → place_start tokens i ≤ place → i < n
before-first tokens place n i first within begins =
    elim (cases_lt i n) [ inl less ↦ less | inr le ↦ absurd (omega (arith, first.reached i le within)) ]

-- where no letter was taken yet no token begins
pub end-begins : (tokens : List TokenValue) (span : PlaceSpan) (first : ℕ) → AreTexts tokens → ArePlaced tokens (span ∷ []) → span.kind ≡ End
    → ¬ BeginsIn tokens (span ∷ []) first span.last
end-begins tokens span first texts placed kind begins =
    let given = GivesPlace-from tokens span begins.place span.last begins.reached in
    let last : span.last < length tokens = last-one tokens span placed in
    let held = placed.front span.kind given.number span.last (Holds-one span given.number given.from given.to) in
    let front : LiesBefore tokens End given.number span.last = subst (λ k. LiesBefore tokens k given.number span.last) kind held in
    let at : IsPlaceOf tokens End given.number begins.place = subst (λ k. IsPlaceOf tokens k given.number begins.place) kind given.place in
    let order : place_start tokens first < place_end tokens first = tokens_are_at-order tokens first texts (omega (arith, begins.order)) in
    let ends : place_end tokens first ≤ place_end tokens span.last = ends-order tokens first span.last texts begins.order last in
    elim begins.begins [ inl here ↦ absurd (omega (arith, here, at, front)) | inr after ↦ absurd (omega (arith, after.0, at, front)) ]

-- some token begins up to a place
pub some-first : (tokens : List TokenValue) (place n : ℕ) → IsFirstFrom (place_start tokens) (length tokens) (place + 1) n → 0 < length tokens → 1 ≤ n
some-first tokens place n first within =
    before-first tokens place n 0 first within (omega (arith, tokens_are_at-first tokens within))

-- the last token that begins up to a place
pub greatest-first : (tokens : List TokenValue) (span : PlaceSpan) (place n : ℕ) → AreTexts tokens → ArePlaced tokens (span ∷ [])
    → IsFirstFrom (place_start tokens) (length tokens) (place + 1) n
    → ((first : ℕ) → first < length tokens → BeginsIn tokens (span ∷ []) first span.last ↔ LiesWithin span.low place (place_start tokens first))
    → (first : ℕ) → BeginsIn tokens (span ∷ []) first span.last
    → (first ≤ n - 1) × (span.low ≤ place_start tokens (n - 1))
greatest-first tokens span place n texts placed bound begins first at =
    let last : span.last < length tokens = last-one tokens span placed in
    let inside : first < length tokens = omega (arith, at.order) in
    let within = (begins first inside).0 at in
    let less : first < n = before-first tokens place n first bound inside within.to in
    let le : first ≤ n - 1 = omega arith in
    let order = starts-order tokens first (n - 1) texts le (omega (arith, bound.within)) in
    (le, omega (arith, within.from, order))
