-- The tidy words of a number of letters and blanks of any kind.
use Rattle.std.proofs.Common.{◌≡◌, ◌⊎◌, ◌↔◌, ℕ, zero, suc, ◌+◌, ◌≤◌, true, [], ◌∷◌, ◌++◌, Option, Some, None, length, refl, sym, ap, ◌∙◌, subst, arith, inl, inr, length-append}
use Rattle.lic_words.specs.Words.{Word, blank, IsTidy, Power}
use Rattle.lic_words.specs.Expressions.{Expression, Language, IsAtMost, one, repeat, tidy}

-- one letter or blank of any kind
abbrev pub any_letter : Expression
any_letter = one (λ _. true)

-- from a least to a greatest number of them, tidy
abbrev pub Counted : ℕ → Option ℕ → Word → Type 0
Counted min max = Language (tidy (repeat min max any_letter))

power_length : (k : ℕ) (w : Word) → Power (Language any_letter) k w → length w ≡ k
power_length zero w h = ap length h
power_length (suc k) w (u, v, (c, p, e), q, f) =
    let l : length v ≡ k = power_length k v q in
    ap length f ∙ length-append u v ∙ ap (λ x. length x + length v) e ∙ omega arith

power_of_length : (w : Word) → Power (Language any_letter) (length w) w
power_of_length [] = refl
power_of_length (c ∷ w) = (c ∷ [], w, (c, refl, refl), power_of_length w, refl)

at_most_same : (max : Option ℕ) (m n : ℕ) → m ≡ n → IsAtMost max n → IsAtMost max m
at_most_same None m n e h = tt
at_most_same (Some max) m n e h = omega arith

-- what the set says of a word
pub record IsCounted (min : ℕ) (max : Option ℕ) (w : Word) : Type 0 where
  pub least : min ≤ length w
  pub most : IsAtMost max (length w)
  pub tidied : IsTidy w

pub counted-sound : (min : ℕ) (max : Option ℕ) (w : Word) → Counted min max w → IsCounted min max w
counted-sound min max w ((k, low, high, p), t) =
    let l : length w ≡ k = power_length k w p in
    record { least = omega arith; most = at_most_same max (length w) k l high; tidied = t }

pub counted-complete : (min : ℕ) (max : Option ℕ) (w : Word) → IsCounted min max w → Counted min max w
counted-complete min max w c = ((length w, c.least, c.most, power_of_length w), c.tidied)

nil_no_append : (c : ℕ) (u v : Word) → [] ≡ u ++ c ∷ v → ⊥
nil_no_append c u v e = let l : 0 ≡ length u + suc (length v) = ap length e ∙ length-append u (c ∷ v) in omega arith

pub empty_tidy : IsTidy []
empty_tidy = record {
  not_first = λ v e. nil_no_append blank [] v e;
  not_last = λ u e. nil_no_append blank u [] e;
  not_two = λ u v e. nil_no_append blank u (blank ∷ v) e;
}

-- from none on: those that are not empty, and the empty word
pub counted-from_none : (max : Option ℕ) (w : Word) → (Counted 1 max w ⊎ (w ≡ [])) ↔ Counted 0 max w
counted-from_none max w = (either, part)
  where
    none_most : (m : Option ℕ) → IsAtMost m 0
    none_most None = tt
    none_most (Some n) = omega arith

    either : Counted 1 max w ⊎ (w ≡ []) → Counted 0 max w
    either (inl h) =
        let c = counted-sound 1 max w h in
        counted-complete 0 max w (record { least = omega arith; most = c.most; tidied = c.tidied })
    either (inr e) = subst (Counted 0 max) (sym e) (counted-complete 0 max [] (record { least = omega arith; most = none_most max; tidied = empty_tidy }))

    part : Counted 0 max w → Counted 1 max w ⊎ (w ≡ [])
    part h = by_word w (counted-sound 0 max w h)
      where
        by_word : (v : Word) → IsCounted 0 max v → Counted 1 max v ⊎ (v ≡ [])
        by_word [] c = inr refl
        by_word (x ∷ v) c = inl (counted-complete 1 max (x ∷ v) (record { least = omega arith; most = c.most; tidied = c.tidied }))
