-- The words of optional copies: in a row, and each within the one before it.
use Rattle.std.proofs.Common.{◌≡◌, ◌⊎◌, ◌↔◌, inl, inr, ℕ, zero, suc, ◌+◌, ◌-◌, ◌<◌, ◌≤◌, List, [], ◌∷◌, ◌++◌, refl, sym, ap, subst, ◌∙◌, arith, append_assoc}
use Rattle.std.proofs.lemmas.Bool.{cases_lt}
use Rattle.lic_words.specs.Words.{Word, Cat, Power}
use Rattle.lic_reverse.specs.Tidily.{UpTo}
use Rattle.lic_reverse.proofs.TidyPowers.{power-joined, power-parted}

module _ (P : Word → Type 0) where
  -- before other words no copy
  pub copies-none : (L : Word → Type 0) (w : Word) → L w ↔ Cat (UpTo P 0) L w
  copies-none L w = (
    λ is. ([], w, (0, omega arith, refl), is, refl),
    λ cat. none cat.0 cat.1 cat.2.0 cat.2.1 cat.2.2 cat.3 cat.4,
  )
    where
      none : (u v : Word) (k : ℕ) → k ≤ 0 → Power P k u → L v → w ≡ u ++ v → L w
      none u v zero few power is same = subst L (sym (same ∙ ap (λ x. x ++ v) power)) is
      none u v (suc k) few power is same = absurd (omega arith)

  -- up to `m` copies, and then up to `n`
  pub copies-joined : (L : Word → Type 0) (m n : ℕ) (w : Word) → Cat (UpTo P m) (Cat (UpTo P n) L) w ↔ Cat (UpTo P (m + n)) L w
  copies-joined L m n w = (to, λ cat. from cat.0 cat.1 cat.2.0 cat.2.1 cat.2.2 cat.3 cat.4)
    where
      to : Cat (UpTo P m) (Cat (UpTo P n) L) w → Cat (UpTo P (m + n)) L w
      to (u, v, (j, few, one), (s, t, (k, less, other), is, inner), same) = (
        u ++ s,
        t,
        (j + k, omega (arith, few, less), power-joined P j k (j + k) u s refl one other),
        is,
        same ∙ ap (λ x. u ++ x) inner ∙ sym (append_assoc u s t),
      )

      part : (u v : Word) (j k i : ℕ) → j ≤ m → k ≤ n → i ≡ j + k → Power P i u → L v → w ≡ u ++ v → Cat (UpTo P m) (Cat (UpTo P n) L) w
      part u v j k i few less sum power is same =
          let parts = power-parted P j k i u sum power in (
            parts.0,
            parts.1 ++ v,
            (j, few, parts.2),
            (parts.1, v, (k, less, parts.3), is, refl),
            same ∙ ap (λ x. x ++ v) parts.4 ∙ append_assoc parts.0 parts.1 v,
          )

      from : (u v : Word) (i : ℕ) → i ≤ m + n → Power P i u → L v → w ≡ u ++ v → Cat (UpTo P m) (Cat (UpTo P n) L) w
      from u v i few power is same = by_order (cases_lt m i)
        where
          by_order : (m < i) ⊎ (i ≤ m) → Cat (UpTo P m) (Cat (UpTo P n) L) w
          by_order (inl more) = part u v m (i - m) i (omega arith) (omega (arith, few, more)) (omega (arith, more)) power is same
          by_order (inr less) = part u v i 0 i less (omega arith) (omega arith) power is same

  -- no copy, or one before up to `n`
  pub copies-within : (n : ℕ) (w : Word) → ((w ≡ []) ⊎ Cat P (UpTo P n) w) ↔ UpTo P (n + 1) w
  copies-within n w = (to, λ is. from is.0 is.1 is.2)
    where
      to : (w ≡ []) ⊎ Cat P (UpTo P n) w → UpTo P (n + 1) w
      to (inl none) = (0, omega arith, none)
      to (inr (u, v, is, (k, few, power), same)) = (suc k, omega (arith, few), (u, v, is, power, same))

      from : (k : ℕ) → k ≤ n + 1 → Power P k w → (w ≡ []) ⊎ Cat P (UpTo P n) w
      from zero few power = inl power
      from (suc k) few power = inr (power.0, power.1, power.2, (k, omega (arith, few), power.3), power.4)
