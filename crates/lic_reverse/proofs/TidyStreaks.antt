-- Going back over streaks of letters that pass, by what was taken last.
use Rattle.std.proofs.Common.{◌≡◌, ◌⊎◌, ℕ, ◌-◌, ◌<◌, Bool, true, false, List, [], ◌∷◌, ◌++◌, length, inl, inr, refl, sym, ap, arith, subst, ◌∙◌}
use Rattle.lic_words.specs.Words.{Word, Cat, blank}
use Rattle.lic_tokens.specs.Tokens.{TokenValue}
use Rattle.lic_places.specs.Reads.{Reads}
use Rattle.lic_spans.specs.declared.span.PlaceSpan.{PlaceSpan}
use Rattle.lic_view.specs.PlaceSets.{ArePlaced, Reaches}
use Rattle.lic_view.specs.Backward.{IsBack}
use Rattle.lic_reverse.specs.Streaks.{IsStreak, IsStreakTo}
use Rattle.lic_reverse.specs.Tidily.{IsTakenBack, IsTakenBefore, IsTidyBack, IsTidyBackFrom, Taken, UpTo, a_blank, a_letter, nothing}
use Rattle.lic_view.proofs.Placed.{ArePlaced-append, ArePlaced-nil, Reaches-append, Reaches-nil}
use Rattle.lic_view.proofs.BlankLemmas.{IsBlank}
use Rattle.lic_reverse.proofs.TidyBack.{HasBetter, IsEmptyWord, tidy-after, tidy-either, tidy-lists, tidy-stay}
use Rattle.lic_reverse.proofs.TidyPassing.{IsOne, better-left, better-right}
use Rattle.lic_reverse.proofs.TakenCases.{by_taken}
use Rattle.lic_reverse.proofs.StreakWords.{EmptyOrStreak, WithBlank, empty_or_streak-up_to, taken-swapped, up_to-empty_or_streak, up_to-with_blank, with_blank-up_to}
use Rattle.lic_view.specs.declared.sets.keep.Keep.{Keep}

-- the same words among those that are taken
pub tidy-taken_same : (keep : Keep) (tokens : List TokenValue) (P Q : Word → Type 0) (Ends : Taken → ℕ → ℕ → Type 0) (xs : Taken → List PlaceSpan) →
    ((w : Word) → P w → Q w) → ((s t : Taken) (w : Word) → IsTakenBack s w t → Q w → P w) → IsTidyBackFrom keep tokens P Ends xs → IsTidyBackFrom keep tokens Q Ends xs
tidy-taken_same keep tokens P Q Ends xs to from back = record {
  placed = back.placed;
  sound = λ s p l r. let a = back.sound s p l r in (a.0, a.1, a.2, a.3, to a.3 a.4, a.5, a.6);
  complete = λ s t p q l w e is taken reads. back.complete s t p q l w e (from s t w taken is) taken reads;
}

module _ (keep : Keep) (tokens : List TokenValue) (passes : ℕ → Bool) (count : ℕ) (xs : Taken → List PlaceSpan) (one other third : List PlaceSpan) where
  -- the lists that streaks lead to
  abbrev led_to : Taken → List PlaceSpan
  led_to nothing = []
  led_to a_letter = (one ++ other) ++ third
  led_to a_blank = []

  abbrev Streak : Word → Type 0
  Streak w = IsStreak passes count w

  streak-first : (s t : Taken) (w : Word) → IsStreak passes count w → IsTakenBack s w t → s ≡ a_letter
  streak-first s t w streak taken = by_first (subst (λ x. IsTakenBack s x t) streak.is taken)
    where
      by_first : IsTakenBack s (streak.first ∷ streak.later) t → s ≡ a_letter
      by_first taken = by_case taken.1
        where
          by_case : IsTakenBefore s streak.first taken.0 → s ≡ a_letter
          by_case (inl is) = absurd (streak.dark is.0)
          by_case (inr is) = is.1

  streak-some_letters : (w : Word) → IsStreak passes count w → 0 < length w
  streak-some_letters w streak = let long = ap length streak.is in omega arith

  blank-no_letter : a_blank ≡ a_letter → ⊥
  blank-no_letter same = let e : a_blank ≡ a_letter = same in cc

  nothing-no_letter : nothing ≡ a_letter → ⊥
  nothing-no_letter same = let e : nothing ≡ a_letter = same in cc

  module _ (first : IsBack keep tokens (IsStreakTo passes count false) (xs nothing) one) (second : IsBack keep tokens (IsStreakTo passes count true) (xs a_letter) other)
      (last : IsBack keep tokens (IsStreakTo passes count false) (xs a_blank) third) where
    abbrev Led : Taken → ℕ → ℕ → Type 0
    Led s p l = (t : Taken) × (q : ℕ) × Reaches tokens (xs t) q l × (w : Word) × Streak w × IsTakenBack s w t × Reads tokens p w q

    sound : (s : Taken) (p l : ℕ) → Reaches tokens (led_to s) p l → Led s p l
    sound nothing p l r = absurd (Reaches-nil tokens p l r)
    sound a_blank p l r = absurd (Reaches-nil tokens p l r)
    sound a_letter p l r = by_part (Reaches-append tokens (one ++ other) third p l r)
      where
        by_first : Reaches tokens one p l ⊎ Reaches tokens other p l → Led a_letter p l
        by_first (inl r) = let a = first.sound p l r in (nothing, a.0, a.1, a.2, a.3.0, a.3.1, a.4)
        by_first (inr r) = let a = second.sound p l r in (a_letter, a.0, a.1, a.2, a.3.0, a.3.1, a.4)

        by_part : Reaches tokens (one ++ other) p l ⊎ Reaches tokens third p l → Led a_letter p l
        by_part (inl r) = by_first (Reaches-append tokens one other p l r)
        by_part (inr r) = let a = last.sound p l r in
            (a_blank, a.0, a.1, a.2, a.3.0, taken-swapped a.2 a_letter nothing a_blank nothing-no_letter (streak-some_letters a.2 a.3.0) a.3.1, a.4)

    to_letters : (t : Taken) (p q l : ℕ) (w : Word) → Reaches tokens (xs t) q l → Streak w → IsTakenBack a_letter w t → Reads tokens p w q → HasBetter keep tokens (led_to a_letter) p l
    to_letters nothing p q l w e is taken reads = better-left keep tokens (one ++ other) third p l (better-left keep tokens one other p l (first.complete p q l w e (is, taken) reads))
    to_letters a_letter p q l w e is taken reads = better-left keep tokens (one ++ other) third p l (better-right keep tokens one other p l (second.complete p q l w e (is, taken) reads))
    to_letters a_blank p q l w e is taken reads = better-right keep tokens (one ++ other) third p l
        (last.complete p q l w e (is, taken-swapped w a_letter a_blank nothing blank-no_letter (streak-some_letters w is) taken) reads)

    complete : (s t : Taken) (p q l : ℕ) (w : Word) → Reaches tokens (xs t) q l → Streak w → IsTakenBack s w t → Reads tokens p w q → HasBetter keep tokens (led_to s) p l
    complete s t p q l w e is taken reads =
        let same = streak-first s t w is taken in
        subst (λ x. HasBetter keep tokens (led_to x) p l) (sym same) (to_letters t p q l w e is (subst (λ x. IsTakenBack x w t) same taken) reads)

    -- streaks lead to these lists
    pub tidy-streaks : (ys : Taken → List PlaceSpan) → ys nothing ≡ [] → ys a_letter ≡ (one ++ other) ++ third → ys a_blank ≡ [] →
        IsTidyBack keep tokens Streak xs ys
    tidy-streaks ys none letters no_blank =
        tidy-lists keep tokens Streak (λ t q l. Reaches tokens (xs t) q l) led_to ys
        (by_taken (λ s. ys s ≡ led_to s) none letters no_blank) (record {
          placed = by_taken (λ s. ArePlaced tokens (led_to s)) (ArePlaced-nil tokens)
              (ArePlaced-append tokens (one ++ other) third (ArePlaced-append tokens one other first.placed second.placed) last.placed) (ArePlaced-nil tokens);
          sound = λ s p l r. sound s p l r;
          complete = λ s t p q l w e is taken reads. complete s t p q l w e is taken reads;
        })

-- ---- a blank

pub tidy-blank : (keep : Keep) (tokens : List TokenValue) (xs ys : Taken → List PlaceSpan) → ys nothing ≡ [] → ys a_letter ≡ [] → IsBack keep tokens IsBlank (xs a_letter) (ys a_blank) →
    IsTidyBack keep tokens IsBlank xs ys
tidy-blank keep tokens xs ys none no_letter blanks = record {
  placed = by_taken (λ s. ArePlaced tokens (ys s)) (subst (λ x. ArePlaced tokens x) (sym none) (ArePlaced-nil tokens))
      (subst (λ x. ArePlaced tokens x) (sym no_letter) (ArePlaced-nil tokens)) blanks.placed;
  sound = λ s p l r. sound s p l r;
  complete = λ s t p q l w e is taken reads. complete s t p q l w e is (subst (λ x. IsTakenBack s x t) is taken) reads;
}
  where
    sound : (s : Taken) (p l : ℕ) → Reaches tokens (ys s) p l →
        (t : Taken) × (q : ℕ) × Reaches tokens (xs t) q l × (w : Word) × IsBlank w × IsTakenBack s w t × Reads tokens p w q
    sound nothing p l r = absurd (Reaches-nil tokens p l (subst (λ x. Reaches tokens x p l) none r))
    sound a_letter p l r = absurd (Reaches-nil tokens p l (subst (λ x. Reaches tokens x p l) no_letter r))
    sound a_blank p l r =
        let a = blanks.sound p l r in
        (a_letter, a.0, a.1, a.2, a.3, subst (λ x. IsTakenBack a_blank x a_letter) (sym a.3) (a_letter, inl (refl, refl, refl), refl), a.4)

    complete : (s t : Taken) (p q l : ℕ) (w : Word) → Reaches tokens (xs t) q l → IsBlank w → IsTakenBack s (blank ∷ []) t → Reads tokens p w q → HasBetter keep tokens (ys s) p l
    complete s t p q l w e is taken reads = by_case taken.1
      where
        by_case : IsTakenBefore s blank taken.0 → HasBetter keep tokens (ys s) p l
        by_case (inr at) = absurd (at.0 refl)
        by_case (inl at) =
            let from = subst (λ x. Reaches tokens (xs x) q l) (sym taken.2 ∙ at.2) e in
            subst (λ x. HasBetter keep tokens (ys x) p l) (sym at.1) (blanks.complete p q l w from is reads)

-- ---- up to a number of letters that pass

-- these places, and what streaks lead to
pub tidy-with_streaks : (keep : Keep) (tokens : List TokenValue) (passes : ℕ → Bool) (count : ℕ) (xs copied streaks found : Taken → List PlaceSpan) →
    ((s : Taken) → ArePlaced tokens (xs s)) → ((s : Taken) → copied s ≡ xs s) → IsTidyBack keep tokens (IsStreak passes count) xs streaks →
    ((s : Taken) → found s ≡ copied s ++ streaks s) → IsTidyBack keep tokens (EmptyOrStreak passes count) xs found
tidy-with_streaks keep tokens passes count xs copied streaks found placed copies back joined =
    tidy-either keep tokens IsEmptyWord (IsStreak passes count) (λ t q l. Reaches tokens (xs t) q l) copied streaks found joined
    (tidy-lists keep tokens IsEmptyWord (λ t q l. Reaches tokens (xs t) q l) xs copied copies (tidy-stay keep tokens xs placed)) back

module _ (keep : Keep) (tokens : List TokenValue) (passes : ℕ → Bool) (count : ℕ) (xs found : Taken → List PlaceSpan)
    (back : IsTidyBack keep tokens (EmptyOrStreak passes count) xs found) where
  -- where no blank passes
  pub many-letters : (passes blank ≡ false) ⊎ (count ≡ 0) → IsTidyBack keep tokens (UpTo (IsOne passes) count) xs found
  many-letters none = tidy-taken_same keep tokens (EmptyOrStreak passes count) (UpTo (IsOne passes) count) (λ t q l. Reaches tokens (xs t) q l) found
      (λ w. empty_or_streak-up_to passes count w) (λ s t w taken. up_to-empty_or_streak passes count none w) back

  -- where no letter was taken last anywhere
  pub many-nowhere : found a_letter ≡ [] → IsTidyBack keep tokens (UpTo (IsOne passes) count) xs found
  many-nowhere nowhere = record {
    placed = back.placed;
    sound = λ s p l r. let a = back.sound s p l r in (a.0, a.1, a.2, a.3, empty_or_streak-up_to passes count a.3 a.4, a.5, a.6);
    complete = λ s t p q l w e is taken reads. by_word s t p q l w e (up_to-with_blank passes count s t w taken is) taken reads;
  }
    where
      more : (v : Word) → EmptyOrStreak passes (count - 1) v → EmptyOrStreak passes count v
      more v (inl none) = inl none
      more v (inr streak) =
          inr (record { passing = streak.passing; few = omega (arith, streak.few); first = streak.first; later = streak.later; dark = streak.dark; is = streak.is })

      never : (s t : Taken) (p q l : ℕ) (v : Word) → Reaches tokens (xs t) q l → EmptyOrStreak passes (count - 1) v →
          IsTakenBack s (blank ∷ v) t → Reads tokens p (blank ∷ v) q → ⊥
      never s t p q l v e is taken reads = by_case taken.1
        where
          by_case : IsTakenBefore s blank taken.0 → ⊥
          by_case (inr at) = at.0 refl
          by_case (inl at) =
              let there = back.complete a_letter t reads.0 q l v e (more v is) (subst (λ x. IsTakenBack x v t) at.2 taken.2) reads.2 in
              Reaches-nil tokens reads.0 there.0 (subst (λ x. Reaches tokens x reads.0 there.0) nowhere there.2)

      by_word : (s t : Taken) (p q l : ℕ) (w : Word) → Reaches tokens (xs t) q l → WithBlank passes count w → IsTakenBack s w t → Reads tokens p w q →
          HasBetter keep tokens (found s) p l
      by_word s t p q l w e (inl is) taken reads = back.complete s t p q l w e is taken reads
      by_word s t p q l w e (inr cat) taken reads =
          let same : w ≡ blank ∷ cat.1 = cat.4 ∙ ap (λ x. x ++ cat.1) cat.2 in
          absurd (never s t p q l cat.1 e cat.3 (subst (λ x. IsTakenBack s x t) same taken) (subst (λ x. Reads tokens p x q) same reads))

  -- and with what a blank leads to from there
  pub many-blanks : (begun blanks all : Taken → List PlaceSpan) → 0 < count → passes blank ≡ true → IsTidyBack keep tokens (EmptyOrStreak passes (count - 1)) xs begun →
      IsTidyBack keep tokens IsBlank begun blanks → ((s : Taken) → all s ≡ found s ++ blanks s) → IsTidyBack keep tokens (UpTo (IsOne passes) count) xs all
  many-blanks begun blanks all some is begins leads joins =
      tidy-taken_same keep tokens (WithBlank passes count) (UpTo (IsOne passes) count) (λ t q l. Reaches tokens (xs t) q l) all
      (λ w. with_blank-up_to passes count some is w) (λ s t w taken. up_to-with_blank passes count s t w taken)
      (tidy-either keep tokens (EmptyOrStreak passes count) (Cat IsBlank (EmptyOrStreak passes (count - 1))) (λ t q l. Reaches tokens (xs t) q l) found blanks all joins
      back (tidy-after keep tokens (EmptyOrStreak passes (count - 1)) IsBlank (λ t q l. Reaches tokens (xs t) q l) begun blanks begins leads))
