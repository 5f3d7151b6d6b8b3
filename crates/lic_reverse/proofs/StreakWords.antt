-- Words of letters and blanks that all pass.
use Rattle.std.proofs.Common.{◌≡◌, ◌⊎◌, ℕ, zero, suc, ◌+◌, ◌-◌, ◌<◌, ◌≤◌, Bool, true, false, [], ◌∷◌, ◌++◌, length, inl, inr, refl, sym, ap, arith, subst, ◌∙◌}
use Rattle.std.proofs.lemmas.Bool.{cases_eq, true≢false}
use Rattle.lic_words.specs.Words.{Word, Cat, Power, blank}
use Rattle.lic_reverse.specs.Streaks.{AllPass, IsStreak}
use Rattle.lic_reverse.specs.Tidily.{IsTakenBack, IsTakenBefore, Taken, UpTo, a_blank, a_letter}
use Rattle.lic_view.proofs.BlankLemmas.{IsBlank}
use Rattle.lic_reverse.proofs.TidyBack.{IsEmptyWord}
use Rattle.lic_reverse.proofs.TidyPassing.{IsOne}

-- a letter within a word that passes
pub pass-within : (passes : ℕ → Bool) (x : Word) (d : ℕ) (y : Word) → AllPass passes (x ++ d ∷ y) → passes d ≡ true
pass-within passes [] d y all = all.0
pass-within passes (c ∷ x) d y all = pass-within passes x d y all.1

module _ (passes : ℕ → Bool) where
  -- `k` words of one letter that passes
  pub power-pass : (k : ℕ) (w : Word) → Power (IsOne passes) k w → AllPass passes w × (length w ≡ k)
  power-pass zero w power = (subst (λ x. AllPass passes x) (sym power) tt, ap length power)
  power-pass (suc k) w power =
      let more = power-pass k power.1 power.3 in
      let same : w ≡ power.2.0 ∷ power.1 = power.4 ∙ ap (λ x. x ++ power.1) power.2.2 in (
        subst (λ x. AllPass passes x) (sym same) (power.2.1, more.0),
        ap length same ∙ ap suc more.1,
      )

  pub pass-power : (w : Word) → AllPass passes w → Power (IsOne passes) (length w) w
  pass-power [] all = refl
  pass-power (c ∷ w) all = (c ∷ [], w, (c, all.0, refl), pass-power w all.1, refl)

  -- the empty word, or a streak
  abbrev pub EmptyOrStreak : ℕ → Word → Type 0
  EmptyOrStreak count w = IsEmptyWord w ⊎ IsStreak passes count w

  -- or a blank and then one of these
  abbrev pub WithBlank : ℕ → Word → Type 0
  WithBlank count w = EmptyOrStreak count w ⊎ Cat IsBlank (EmptyOrStreak (count - 1)) w

  streak-up_to : (count : ℕ) (w : Word) → AllPass passes w → length w ≤ count → UpTo (IsOne passes) count w
  streak-up_to count w all few = (length w, few, pass-power w all)

  pub empty_or_streak-up_to : (count : ℕ) (w : Word) → EmptyOrStreak count w → UpTo (IsOne passes) count w
  empty_or_streak-up_to count w (inl is) = subst (λ x. UpTo (IsOne passes) count x) (sym is) (0, omega arith, refl)
  empty_or_streak-up_to count w (inr streak) = streak-up_to count w streak.passing streak.few

  pub with_blank-up_to : (count : ℕ) → 0 < count → passes blank ≡ true → (w : Word) → WithBlank count w → UpTo (IsOne passes) count w
  with_blank-up_to count some is w (inl has) = empty_or_streak-up_to count w has
  with_blank-up_to count some is w (inr cat) = subst (λ x. UpTo (IsOne passes) count x) (sym same) (streak-up_to count (blank ∷ cat.1) (is, all cat.3) (omega (arith, few cat.3)))
    where
      same : w ≡ blank ∷ cat.1
      same = cat.4 ∙ ap (λ x. x ++ cat.1) cat.2

      all : EmptyOrStreak (count - 1) cat.1 → AllPass passes cat.1
      all (inl none) = subst (λ x. AllPass passes x) (sym none) tt
      all (inr streak) = streak.passing

      few : EmptyOrStreak (count - 1) cat.1 → length cat.1 + 1 ≤ count
      few (inl none) = omega (arith, ap length none)
      few (inr streak) = omega (arith, streak.few)

  -- what is taken begins with a letter, or with one blank
  pub up_to-with_blank : (count : ℕ) (s t : Taken) (w : Word) → IsTakenBack s w t → UpTo (IsOne passes) count w → WithBlank count w
  up_to-with_blank count s t w taken has = by_word w (power-pass has.0 w has.2).0 (omega (arith, has.1, (power-pass has.0 w has.2).1)) taken
    where
      second : (v : Word) → AllPass passes v → length v + 1 ≤ count → (r : Taken) → r ≡ a_letter → IsTakenBack r v t → EmptyOrStreak (count - 1) v
      second [] all few r is taken = inl refl
      second (d ∷ v) all few r is taken = by_letter (cases_eq d blank)
        where
          never : IsTakenBefore r d taken.0 → d ≡ blank → ⊥
          never (inl at) same = let e : a_letter ≡ a_blank = sym is ∙ at.1 in cc
          never (inr at) same = at.0 same

          by_letter : (d ≡ blank) ⊎ (d ≡ blank → ⊥) → EmptyOrStreak (count - 1) (d ∷ v)
          by_letter (inl same) = absurd (never taken.1 same)
          by_letter (inr other) = inr (record { passing = all; few = omega arith; first = d; later = v; dark = other; is = refl })

      by_word : (w : Word) → AllPass passes w → length w ≤ count → IsTakenBack s w t → WithBlank count w
      by_word [] all few taken = inl (inl refl)
      by_word (c ∷ v) all few taken = by_letter (cases_eq c blank)
        where
          after : IsTakenBefore s c taken.0 → c ≡ blank → taken.0 ≡ a_letter
          after (inl at) same = at.2
          after (inr at) same = absurd (at.0 same)

          by_letter : (c ≡ blank) ⊎ (c ≡ blank → ⊥) → WithBlank count (c ∷ v)
          by_letter (inl same) = inr (blank ∷ [], v, refl, second v all.1 (omega arith) taken.0 (after taken.1 same) taken.2, ap (λ x. x ∷ v) same)
          by_letter (inr other) = inl (inr (record { passing = all; few = few; first = c; later = v; dark = other; is = refl }))

  -- where no blank passes, with a letter
  pub up_to-empty_or_streak : (count : ℕ) → (passes blank ≡ false) ⊎ (count ≡ 0) → (w : Word) → UpTo (IsOne passes) count w → EmptyOrStreak count w
  up_to-empty_or_streak count none w has = by_word w (power-pass has.0 w has.2).0 (omega (arith, has.1, (power-pass has.0 w has.2).1))
    where
      by_word : (w : Word) → AllPass passes w → length w ≤ count → EmptyOrStreak count w
      by_word [] all few = inl refl
      by_word (c ∷ v) all few = inr (record { passing = all; few = few; first = c; later = v; dark = λ same. never none same; is = refl })
        where
          never : (passes blank ≡ false) ⊎ (count ≡ 0) → c ≡ blank → ⊥
          never (inl refused) same = true≢false (sym all.0 ∙ ap passes same ∙ refused)
          never (inr zero_count) same = omega arith

-- a word that is not empty is taken before nothing as before a blank
pub taken-swapped : (w : Word) (s t r : Taken) → (t ≡ a_letter → ⊥) → 0 < length w → IsTakenBack s w t → IsTakenBack s w r
taken-swapped [] s t r dark some taken = absurd (omega arith)
taken-swapped (c ∷ []) s t r dark some taken = (r, by_case taken.1, refl)
  where
    by_case : IsTakenBefore s c taken.0 → IsTakenBefore s c r
    by_case (inl at) = absurd (dark (sym taken.2 ∙ at.2))
    by_case (inr at) = inr at
taken-swapped (c ∷ d ∷ w) s t r dark some taken = (taken.0, taken.1, taken-swapped (d ∷ w) taken.0 t r dark (omega arith) taken.2)
