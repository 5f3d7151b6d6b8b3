-- Going back from the place of one number over streaks of letters that pass.
use Rattle.std.proofs.Common.{◌≡◌, ◌⊎◌, ℕ, ◌-◌, ◌<◌, ◌≤◌, Bool, true, false, List, [], ◌∷◌, length, inl, inr, refl, sym, ap, arith, subst}
use Rattle.std.proofs.lemmas.List.Elements.{All-nil, All-push}
use Rattle.lic_words.specs.Words.{Word}
use Rattle.lic_tokens.specs.Tokens.{TokenValue}
use Rattle.lic_tokens.specs.Places.{place_end}
use Rattle.lic_places.specs.Places.{AreTexts, IsAfterBlank, spelling_of}
use Rattle.lic_places.specs.Reads.{Reads}
use Rattle.lic_spans.specs.Spans.{Holds}
use Rattle.lic_spans.specs.declared.span.SpanKind.{SpanKind}
use Rattle.lic_spans.specs.declared.span.SpanKind.TheVariants.{Letters}
use Rattle.lic_spans.specs.declared.span.PlaceSpan.{PlaceSpan}
use Rattle.lic_view.specs.PlaceSets.{ArePlaced, IsLetterPlace, IsPlaceOf, LiesBefore, Reaches}
use Rattle.lic_view.specs.Backward.{Beats, IsBackFrom}
use Rattle.lic_reverse.specs.Streaks.{IsStreak, IsStreakStart, IsStreakTo, before_of}
use Rattle.lic_reverse.specs.Tidily.{IsTakenBack, a_letter, nothing}
use Rattle.lic_view.proofs.Back.{Beats-same, Reaches-in_front, back-nothing}
use Rattle.lic_view.proofs.BlankLemmas.{held, holds-one}
use Rattle.lic_view.proofs.ViewSpans.{last-one}
use Rattle.lic_view.proofs.Numbers.{At}
use Rattle.lic_reverse.proofs.PassingLemmas.{place-one}
use Rattle.lic_reverse.proofs.StreakChains.{MayGoOn}
use Rattle.lic_reverse.proofs.StreakPlaces.{more-streaks, streak-begins, streak-complete, streak-ends, streak-sound}
use Rattle.lic_view.specs.declared.sets.keep.Keep.{Keep}

nothing-no_letter : nothing ≡ a_letter → ⊥
nothing-no_letter same = let e : nothing ≡ a_letter = same in cc

pub may-go_on : (bytes : List ℕ) (after : Bool) (place : ℕ) → (after ≡ true) ⊎ ¬ (IsAfterBlank bytes place) → MayGoOn bytes (before_of after) place
may-go_on bytes after place (inl is) = inl (ap before_of is)
may-go_on bytes after place (inr free) = inr free

-- the places at which letters begin, from one place to before another
abbrev pub streak_span : ℕ → ℕ → ℕ → PlaceSpan
streak_span low place last = record { low = low; high = place - 1; last = last; kind = Letters }

module _ (keep : Keep) (tokens : List TokenValue) (texts : AreTexts tokens) (passes : ℕ → Bool) (count : ℕ) (after : Bool) (span : PlaceSpan) (number : ℕ) where
  abbrev Words : Word → Type 0
  Words w = IsStreakTo passes count after w

  streak-long : (w : Word) → IsStreak passes count w → 0 < length w
  streak-long w streak = let long = ap length streak.is in omega arith

  -- the number gives no place
  pub streak-no_place : ((p : ℕ) → ¬ (IsPlaceOf tokens span.kind number p)) → IsBackFrom keep tokens Words (At tokens span number) []
  streak-no_place none = back-nothing keep tokens Words (At tokens span number) (λ p q l w e is reads. none q e.1)

  -- a blank comes before it
  pub streak-following : (place : ℕ) → after ≡ false → IsPlaceOf tokens span.kind number place → IsAfterBlank (spelling_of tokens) place →
      IsBackFrom keep tokens Words (At tokens span number) []
  streak-following place is_not here following = back-nothing keep tokens Words (At tokens span number) (λ p q l w e is reads.
      let same : place ≡ q = place-one tokens span.kind number place q here e.1 in
      streak-ends tokens texts w a_letter nothing p q nothing-no_letter (streak-long w is.0) (subst (λ b. IsTakenBack a_letter w (before_of b)) is_not is.1) reads
      (subst (λ x. IsAfterBlank (spelling_of tokens) x) same following))

  -- no letter that passes is there
  pub streak-none : (place low : ℕ) → IsPlaceOf tokens span.kind number place → IsStreakStart (spelling_of tokens) passes count place low → place ≤ low →
      IsBackFrom keep tokens Words (At tokens span number) []
  streak-none place low here start none = back-nothing keep tokens Words (At tokens span number) (λ p q l w e is reads.
      let same : q ≡ place = place-one tokens span.kind number q place e.1 here in
      let read = subst (λ x. Reads tokens p w x) same reads in
      let from = streak-complete tokens texts passes count low place p w start is.0.passing is.0.few read in
      let begins = streak-begins tokens texts passes count p place w is.0 read in
      absurd (omega (arith, begins.1)))

  -- all places at which a letter begins from there on
  pub streak-some : (place low : ℕ) → ArePlaced tokens (span ∷ []) → span.low ≤ number → number ≤ span.high → IsPlaceOf tokens span.kind number place →
      MayGoOn (spelling_of tokens) (before_of after) place → IsStreakStart (spelling_of tokens) passes count place low → low < place →
      IsBackFrom keep tokens Words (At tokens span number) (streak_span low place span.last ∷ [])
  streak-some place low placed from to here may start some = record {
    placed = record {
      ordered = All-push (λ (s : PlaceSpan). s.low ≤ s.high) [] streak (All-nil (λ (s : PlaceSpan). s.low ≤ s.high)) (omega arith);
      last = All-push (λ (s : PlaceSpan). s.last < length tokens) [] streak (All-nil (λ (s : PlaceSpan). s.last < length tokens)) (last-one tokens span placed);
      front = λ kind n l holds. fronts kind n l (held streak kind n l holds);
    };
    sound = λ p l r. sound p l r (held streak r.kind r.number l r.holds);
    complete = λ p q l w e is reads. complete p q l w e is reads;
  }
    where
      streak : PlaceSpan
      streak = streak_span low place span.last

      reached : Reaches tokens (span ∷ []) place span.last
      reached = record { kind = span.kind; number = number; holds = holds-one span number from to; place = here }

      front : place ≤ place_end tokens span.last
      front = Reaches-in_front tokens (span ∷ []) place span.last placed reached

      fronts : (kind : SpanKind) (n l : ℕ) → (Letters ≡ kind) × (low ≤ n) × (n ≤ place - 1) × (span.last ≡ l) → LiesBefore tokens kind n l
      fronts kind n l h =
          let lies : n < place_end tokens span.last = omega (arith, h.2, front) in
          subst (λ x. LiesBefore tokens kind n x) h.3 (subst (λ k. LiesBefore tokens k n span.last) h.0 lies)

      sound : (p l : ℕ) (r : Reaches tokens (streak ∷ []) p l) → (Letters ≡ r.kind) × (low ≤ r.number) × (r.number ≤ place - 1) × (span.last ≡ l) →
          (q : ℕ) × At tokens span number q l × (w : Word) × Words w × Reads tokens p w q
      sound p l r h =
          let at : IsPlaceOf tokens Letters r.number p = subst (λ k. IsPlaceOf tokens k r.number p) (sym h.0) r.place in
          let begins : IsLetterPlace tokens p = subst (λ x. IsLetterPlace tokens x) (sym at.0) at.1 in
          let found = more-streaks tokens texts passes (before_of after) start.number count p place start.few
          (streak-sound tokens texts passes (before_of after) start.number low place p may start.chain (omega (arith, at.0, h.1)) (omega (arith, at.0, h.2)) begins) in
          (place, (sym h.3, here), found.word, (found.streak, found.taken), found.reads)

      complete : (p q l : ℕ) (w : Word) → At tokens span number q l → Words w → Reads tokens p w q →
          (o : ℕ) × Beats keep tokens p o l × Reaches tokens (streak ∷ []) p o
      complete p q l w e is reads =
          let same : q ≡ place = place-one tokens span.kind number q place e.1 here in
          let read = subst (λ x. Reads tokens p w x) same reads in
          let start_at = streak-complete tokens texts passes count low place p w start is.0.passing is.0.few read in
          let begins = streak-begins tokens texts passes count p place w is.0 read in
          let holds : Holds (streak ∷ []) Letters p l = subst (λ x. Holds (streak ∷ []) Letters p x) (sym e.0) (holds-one streak p start_at (omega (arith, begins.1))) in
          (l, Beats-same keep tokens p l, record { kind = Letters; number = p; holds = holds; place = (refl, begins.0) })
