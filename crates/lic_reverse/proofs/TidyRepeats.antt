-- Going back over repetitions, over sequences of patterns and over choices.
use Rattle.std.proofs.Common.{ℕ, ◌+◌, ◌-◌, ◌*◌, ◌^◌, ◌<◌, ◌≤◌, List, length, refl, sym, arith, subst}
use Rattle.std.specs.Prelude.{Option, Some, None}
use Rattle.lic_words.specs.Words.{Word, Cat, Power}
use Rattle.lic_words.specs.Expressions.{IsAtMost}
use Rattle.lic_tokens.specs.Tokens.{TokenValue}
use Rattle.lic_places.specs.Places.{AreTexts, spelling_of}
use Rattle.lic_places.specs.Reads.{Reads}
use Rattle.lic_spans.specs.declared.span.PlaceSpan.{PlaceSpan}
use Rattle.lic_view.specs.PlaceSets.{ArePlaced, Reaches}
use Rattle.lic_reverse.specs.Tidily.{IsMore, IsTakenBack, IsTidyBack, IsTidyBackFrom, Taken, UpTo}
use Rattle.lic_view.proofs.ViewPlaces.{end-within}
use Rattle.lic_view.proofs.Back.{Holds-last, Reaches-in_front}
use Rattle.lic_reverse.proofs.TidyWords.{height-most, taken-length}
use Rattle.lic_reverse.proofs.TidyBack.{HasBetter, tidy-after, tidy-same}
use Rattle.lic_reverse.proofs.TidyPowers.{power-joined, power-parted, power-shorter}
use Rattle.lic_view.specs.declared.sets.keep.Keep.{Keep}

-- any number of words of the set in a row
abbrev pub AnyOf : (Word → Type 0) → Word → Type 0
AnyOf P w = (k : ℕ) × Power P k w

module _ (keep : Keep) (tokens : List TokenValue) (texts : AreTexts tokens) (B : Word → Type 0) where
  -- more words than a text has letters and gaps lead to no other places
  pub any-number : (xs ys : Taken → List PlaceSpan) (count : ℕ) → 2 * length (spelling_of tokens) + 1 ≤ count → ((s : Taken) → ArePlaced tokens (xs s)) →
      IsTidyBack keep tokens (UpTo B count) xs ys → IsTidyBack keep tokens (AnyOf B) xs ys
  any-number xs ys count many placed back = record {
    placed = back.placed;
    sound = λ s p l r. let a = back.sound s p l r in (a.0, a.1, a.2, a.3, (a.4.0, a.4.2), a.5, a.6);
    complete = λ s t p q l w e is taken reads. complete s t p q l w e is.0 is.1 taken reads;
  }
    where
      complete : (s t : Taken) (p q l : ℕ) (w : Word) → Reaches tokens (xs t) q l → (k : ℕ) → Power B k w → IsTakenBack s w t → Reads tokens p w q →
          HasBetter keep tokens (ys s) p l
      complete s t p q l w e k power taken reads =
          let long = taken-length tokens w s t p q taken reads in
          let most = height-most t q in
          let front = Reaches-in_front tokens (xs t) q l (placed t) e in
          let last = Holds-last tokens (xs t) e.kind e.number l (placed t) e.holds in
          let end = end-within tokens l last in
          let short = power-shorter B k w power in
          back.complete s t p q l w e (short.0, omega (arith, short.1), short.3) taken reads

  -- from the one number to the other, or to no end
  pub repeat-back : (Ends : Taken → ℕ → ℕ → Type 0) (min : ℕ) (max : Option ℕ) (more : ℕ) (ys zs : Taken → List PlaceSpan) →
      length (spelling_of tokens) < 2 ^ 63 → IsMore min max more →
      IsTidyBackFrom keep tokens (Power B min) Ends ys → IsTidyBack keep tokens (UpTo B more) ys zs →
      IsTidyBackFrom keep tokens (λ w. (k : ℕ) × (min ≤ k) × IsAtMost max k × Power B k w) Ends zs
  repeat-back Ends min (Some max) more ys zs short is needed up_to =
      tidy-same keep tokens (Cat (UpTo B more) (Power B min)) (λ w. (k : ℕ) × (min ≤ k) × (k ≤ max) × Power B k w) Ends zs to from
      (tidy-after keep tokens (Power B min) (UpTo B more) Ends ys zs needed up_to)
    where
      to : (w : Word) → Cat (UpTo B more) (Power B min) w → (k : ℕ) × (min ≤ k) × (k ≤ max) × Power B k w
      to w cat =
          let k : ℕ = cat.2.0 + min in
          (k, omega arith, omega (arith, cat.2.1, is), subst (λ x. Power B k x) (sym cat.4) (power-joined B cat.2.0 min k cat.0 cat.1 refl cat.2.2 cat.3))

      from : (w : Word) → (k : ℕ) × (min ≤ k) × (k ≤ max) × Power B k w → Cat (UpTo B more) (Power B min) w
      from w has =
          let j : ℕ = has.0 - min in
          let parts = power-parted B j min has.0 w (omega (arith, has.1)) has.3 in
          (parts.0, parts.1, (j, omega (arith, has.1, has.2, is), parts.2), parts.3, parts.4)
  repeat-back Ends min None more ys zs short is needed up_to =
      tidy-same keep tokens (Cat (AnyOf B) (Power B min)) (λ w. (k : ℕ) × (min ≤ k) × Unit {0} × Power B k w) Ends zs to from
      (tidy-after keep tokens (Power B min) (AnyOf B) Ends ys zs needed
      (any-number ys zs more (omega (arith, short, is)) needed.placed up_to))
    where
      to : (w : Word) → Cat (AnyOf B) (Power B min) w → (k : ℕ) × (min ≤ k) × Unit {0} × Power B k w
      to w cat =
          let k : ℕ = cat.2.0 + min in
          (k, omega arith, tt, subst (λ x. Power B k x) (sym cat.4) (power-joined B cat.2.0 min k cat.0 cat.1 refl cat.2.1 cat.3))

      from : (w : Word) → (k : ℕ) × (min ≤ k) × Unit {0} × Power B k w → Cat (AnyOf B) (Power B min) w
      from w has =
          let j : ℕ = has.0 - min in
          let parts = power-parted B j min has.0 w (omega (arith, has.1)) has.3 in
          (parts.0, parts.1, (j, parts.2), parts.3, parts.4)

  -- more than there may be
  pub repeat-none : (min : ℕ) (max : Option ℕ) → (IsAtMost max min → ⊥) → (w : Word) → (k : ℕ) × (min ≤ k) × IsAtMost max k × Power B k w → ⊥
  repeat-none min None none w has = none tt
  repeat-none min (Some max) none w has = none (omega (arith, has.1, has.2))
