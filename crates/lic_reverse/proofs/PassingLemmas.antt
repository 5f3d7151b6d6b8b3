-- Going back from the place of one number over a letter that passes.
use Rattle.std.proofs.Common.{◌≡◌, ◌↔◌, ℕ, ◌+◌, ◌<◌, ◌≤◌, Bool, List, [], ◌∷◌, ◌++◌, inl, inr, refl, sym, arith, subst, ◌∙◌, ⊎_elim}
use Rattle.std.specs.Prelude.{Contains}
use Rattle.std.specs.List.Sorted.{IsStrictlyIncreasing}
use Rattle.std.proofs.lemmas.Bool.{cases_lt}
use Rattle.std.proofs.lemmas.List.Elements.{Contains-append_left, Contains-push, Contains-push_cases}
use Rattle.lic_literals.proofs.Rising.{IsStrictlyIncreasing-push}
use Rattle.std.proofs.lemmas.Str.{length-encode, len_utf8_bounds}
use Rattle.lic_words.specs.Words.{Word, blank}
use Rattle.lic_tokens.specs.Tokens.{TokenValue}
use Rattle.lic_tokens.specs.Places.{place_end}
use Rattle.lic_places.specs.Places.{AreTexts, spelling_of}
use Rattle.lic_places.specs.Reads.{Reads, Takes}
use Rattle.lic_spans.specs.declared.span.SpanKind.{SpanKind}
use Rattle.lic_spans.specs.declared.span.SpanKind.TheVariants.{End, Place, Letters, Blanks}
use Rattle.lic_spans.specs.declared.span.PlaceSpan.{PlaceSpan}
use Rattle.lic_view.specs.PlaceSets.{ArePlaced, IsPlaceOf, Reaches}
use Rattle.lic_view.specs.Backward.{IsBackFrom}
use Rattle.lic_view.specs.LettersBefore.{IsLetterBefore}
use Rattle.lic_reverse.specs.Passing.{IsPassing}
use Rattle.lic_reverse.specs.PassingPlaces.{LeadsNowhere, LeadsTo, LeadsToSome}
use Rattle.lic_view.specs.Wide.{This}
use Rattle.lic_places.proofs.TokenPlaces.{spelling-utf8}
use Rattle.lic_view.proofs.PlaceLaws.{blank-one}
use Rattle.lic_view.proofs.Back.{Reaches-in_front, back-nothing}
use Rattle.lic_view.proofs.ViewSpans.{Holds-one, last-one}
use Rattle.lic_view.proofs.BlankLemmas.{held}
use Rattle.lic_view.proofs.Numbers.{At}
use Rattle.lic_view.proofs.WideLemmas.{HasPlace, wide-reached}
use Rattle.lic_view.proofs.SingleLemmas.{back-single, single}
use Rattle.lic_view.proofs.LastLetters.{letter-one, letter-whole}
use Rattle.lic_view.specs.declared.sets.keep.Keep.{Keep}

-- a number gives one place at most
pub place-one : (tokens : List TokenValue) (kind : SpanKind) (number p q : ℕ) → IsPlaceOf tokens kind number p → IsPlaceOf tokens kind number q → p ≡ q
place-one tokens End number p q one other = one ∙ sym other
place-one tokens Place number p q one other = one ∙ sym other
place-one tokens Letters number p q one other = one.0 ∙ sym other.0
place-one tokens Blanks number p q one other = blank-one tokens p q number one.1 other.1

-- a letter that is no blank is read where it is
pub letter-read : (tokens : List TokenValue) (p c q : ℕ) → ¬ (c ≡ blank) → Reads tokens p (c ∷ []) q → IsLetterBefore (spelling_of tokens) q p c
letter-read tokens p c q dark reads = taken reads.1
  where
    taken : Takes tokens p c reads.0 → IsLetterBefore (spelling_of tokens) q p c
    taken (inl is) = absurd (dark is.0)
    taken (inr is) = subst (λ x. IsLetterBefore (spelling_of tokens) x p c) reads.2 (record { scalar = is.1; occurs = is.2 })

module _ (keep : Keep) (tokens : List TokenValue) (passes : ℕ → Bool) (span : PlaceSpan) (number : ℕ) where
  -- where a letter leads to the place
  pub back-passing : (p : ℕ) → AreTexts tokens → ArePlaced tokens (span ∷ []) → span.low ≤ number → number ≤ span.high →
      LeadsTo tokens passes span.kind number p → IsBackFrom keep tokens (IsPassing passes) (At tokens span number) (single p span.last ∷ [])
  back-passing p texts placed from to led =
      back-single keep tokens (IsPassing passes) (At tokens span number) p led.place span.last (led.letter ∷ [])
      (last-one tokens span placed) (omega (arith, front, led.occurs.occurs.0, length-encode led.letter, (len_utf8_bounds led.letter).0))
      (letter-whole (spelling_of tokens) led.place p led.letter led.occurs)
      (refl, led.is)
      (λ r l e. (place-one tokens span.kind number r led.place e.1 led.is, e.0))
      (led.letter, led.dark, led.passes_it, refl)
      (led.place, inr (led.dark, led.occurs.scalar, led.occurs.occurs), refl)
      (λ r v has reads. one r v has reads)
    where
      reached : Reaches tokens (span ∷ []) led.place span.last
      reached = record { kind = span.kind; number = number; holds = Holds-one span number from to; place = led.is }

      front : led.place ≤ place_end tokens span.last
      front = Reaches-in_front tokens (span ∷ []) led.place span.last placed reached

      one : (r : ℕ) (v : Word) → IsPassing passes v → Reads tokens r v led.place → r ≡ p
      one r v has reads =
          let occurs = letter-read tokens r has.0 led.place has.1 (subst (λ x. Reads tokens r x led.place) has.3 reads) in
          (letter-one (spelling_of tokens) led.place r has.0 p led.letter (spelling-utf8 tokens texts) occurs led.occurs).0

  -- where none does
  pub back-no_passing : LeadsNowhere tokens passes span.kind number → IsBackFrom keep tokens (IsPassing passes) (At tokens span number) []
  back-no_passing none = back-nothing keep tokens (IsPassing passes) (At tokens span number)
      (λ p q l w e has reads.
      none p q has.0 e.1 has.1 has.2 (letter-read tokens p has.0 q has.1 (subst (λ x. Reads tokens p x q) has.3 reads)))

-- ---- a place of a span of many

module _ (keep : Keep) (tokens : List TokenValue) (passes : ℕ → Bool) (span : PlaceSpan) (end : ℕ) where
  -- where a letter leads to the place
  pub wide-passing : (p : ℕ) → AreTexts tokens → ArePlaced tokens (span ∷ []) → HasPlace tokens span end →
      LeadsTo tokens passes Place end p → IsBackFrom keep tokens (IsPassing passes) (This tokens span end) (single p span.last ∷ [])
  wide-passing p texts placed has led =
      let reached = wide-reached tokens span end has in
      let same : led.place ≡ end = led.is in
      let occurs = subst (λ q. IsLetterBefore (spelling_of tokens) q p led.letter) same led.occurs in
      back-single keep tokens (IsPassing passes) (This tokens span end) p end span.last (led.letter ∷ [])
      (last-one tokens span placed)
      (omega (arith, Reaches-in_front tokens (span ∷ []) end span.last placed reached, occurs.occurs.0, length-encode led.letter, (len_utf8_bounds led.letter).0))
      (letter-whole (spelling_of tokens) end p led.letter occurs)
      (refl, reached)
      (λ r l h. (h.0, sym (held span h.1.kind h.1.number l h.1.holds).3))
      (led.letter, led.dark, led.passes_it, refl)
      (end, inr (led.dark, occurs.scalar, occurs.occurs), refl)
      (λ r v has reads.
      let read = letter-read tokens r has.0 end has.1 (subst (λ x. Reads tokens r x end) has.3 reads) in
      (letter-one (spelling_of tokens) end r has.0 p led.letter (spelling-utf8 tokens texts) read occurs).0)

  -- where none does
  pub wide-no_passing : LeadsNowhere tokens passes Place end → IsBackFrom keep tokens (IsPassing passes) (This tokens span end) []
  wide-no_passing none = back-nothing keep tokens (IsPassing passes) (This tokens span end)
      (λ p q l w h has reads. none p q has.0 h.0 has.1 has.2 (letter-read tokens p has.0 q has.1 (subst (λ x. Reads tokens p x q) has.3 reads)))

-- a letter that a word reads leads to the place where it ends
pub passing-meant : (tokens : List TokenValue) (passes : ℕ → Bool) (span : PlaceSpan) (p q last : ℕ) (w : Word) → Reaches tokens (span ∷ []) q last → IsPassing passes w →
    Reads tokens p w q → LeadsToSome tokens passes q
passing-meant tokens passes span p q last w r has reads =
    (p, record { place = q; letter = has.0; is = refl; dark = has.1; passes_it = has.2; occurs = letter-read tokens p has.0 q has.1 (subst (λ x. Reads tokens p x q) has.3 reads) })

-- ---- the places of a stretch, one after another

-- the places of a stretch before one that are meant
pub record AreThoseBefore (Meant : ℕ → Type 0) (low place : ℕ) (ends : List ℕ) : Type 0 where
  pub rising : IsStrictlyIncreasing ends
  pub exact : (p : ℕ) → Contains ends p ↔ ((low ≤ p) × (p < place) × Meant p)

pub before-none : (Meant : ℕ → Type 0) (low : ℕ) (ends : List ℕ) → ends ≡ [] → AreThoseBefore Meant low low ends
before-none Meant low ends none = subst (AreThoseBefore Meant low low) (sym none) (record {
  rising = λ k below. absurd (omega arith);
  exact = λ p. (λ among. absurd (omega (arith, among.1)), λ is. absurd (omega (arith, is.0, is.1)));
})

pub before-more : (Meant : ℕ → Type 0) (low place : ℕ) (old new : List ℕ) → low ≤ place → AreThoseBefore Meant low place old → Meant place → new ≡ old ++ place ∷ [] →
    AreThoseBefore Meant low (place + 1) new
before-more Meant low place old new from are meant is = subst (AreThoseBefore Meant low (place + 1)) (sym is) (record {
  rising = IsStrictlyIncreasing-push old place are.rising (λ p among. ((are.exact p).0 among).1);
  exact = λ p. (
    λ among. ⊎_elim (λ before. let was = (are.exact p).0 before in (was.0, omega (arith, was.1), was.2))
        (λ (same : place ≡ p). (omega arith, omega arith, subst Meant same meant))
        (Contains-push_cases old place p among),
    λ has. ⊎_elim (λ (below : p < place). Contains-append_left old (place ∷ []) p ((are.exact p).1 (has.0, below, has.2)))
        (λ (up : place ≤ p). let same : place ≡ p = omega (arith, has.1) in subst (Contains (old ++ place ∷ [])) same (Contains-push old place))
        (cases_lt p place),
  );
})

pub before-skip : (Meant : ℕ → Type 0) (low place : ℕ) (ends : List ℕ) → AreThoseBefore Meant low place ends → (Meant place → ⊥) → AreThoseBefore Meant low (place + 1) ends
before-skip Meant low place ends are none = record {
  rising = are.rising;
  exact = λ p. (
    λ among. let was = (are.exact p).0 among in (was.0, omega (arith, was.1), was.2),
    λ has. ⊎_elim (λ (below : p < place). (are.exact p).1 (has.0, below, has.2))
        (λ (up : place ≤ p). let same : p ≡ place = omega (arith, has.1) in absurd (none (subst Meant same has.2)))
        (cases_lt p place),
  );
}

-- all places of a stretch
pub before-all : (Meant : ℕ → Type 0) (low high end : ℕ) (ends : List ℕ) → AreThoseBefore Meant low end ends → end ≡ high + 1 → (p : ℕ) →
    Contains ends p ↔ ((low ≤ p) × (p ≤ high) × Meant p)
before-all Meant low high end ends are last p = (
  λ among. let was = (are.exact p).0 among in (was.0, omega (arith, was.1, last), was.2),
  λ has. (are.exact p).1 (has.0, omega (arith, has.1, last), has.2),
)
