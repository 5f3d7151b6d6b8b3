-- How the front of a streak moves on.
use Rattle.std.proofs.Common.{◌≡◌, ◌≢◌, ℕ, ◌+◌, ◌-◌, ◌<◌, ◌≤◌, Bool, true, false, List, sym, ap, ◌∙◌, subst, ⊎_elim, arith}
use Rattle.std.specs.Prelude.{slice_index_or, slice_index}
use Rattle.std.proofs.lemmas.Bool.{false≢true, cases_lt, cases_eq}
use Rattle.lic_trim.specs.Walks.{IsStreakFront}

module _ (flags : List Bool) (line : List ℕ) (k first : ℕ) (front : IsStreakFront flags line k first)
    (stops : 0 < k → first < k → slice_index line k ≡ slice_index line (k - 1) → ⊥) where
  other : (j : ℕ) → j < k → slice_index_or flags j false ≡ true → (i : ℕ) × (j ≤ i) × (i < k + 1) × (slice_index line i ≢ slice_index line (k + 1 - 1))
  other j below flag =
      let here : k + 1 - 1 ≡ k = omega arith in
      ⊎_elim
      (λ same.
      ⊎_elim
      (λ low.
      let found = front.least j low below flag in
      let lt : found.0 < k = found.2 in
      (found.0, found.1, omega arith, λ e. found.3 (e ∙ ap (slice_index line) here ∙ same)))
      (λ high. absurd (stops (omega arith) (omega arith) same))
      (cases_lt j first))
      (λ differs. (k - 1, omega arith, omega arith, λ e. differs (sym (e ∙ ap (slice_index line) here))))
      (cases_eq (slice_index line k) (slice_index line (k - 1)))

  pub front_at : slice_index_or flags k false ≡ true → IsStreakFront flags line (k + 1) k
  front_at flag = record {
    within = omega arith;
    same = λ i low high. let e : i ≡ k + 1 - 1 = omega arith in ap (slice_index line) e;
    flagged = λ _. flag;
    least = λ j low high f. other j low f;
  }

  pub front_after : slice_index_or flags k false ≡ false → IsStreakFront flags line (k + 1) (k + 1)
  front_after none = record {
    within = omega arith;
    same = λ i low high. absurd (omega arith);
    flagged = λ lt. absurd (omega arith);
    least = λ j low high f.
        ⊎_elim
        (λ below. other j below f)
        (λ last. let e : j ≡ k = omega arith in absurd (false≢true (sym none ∙ subst (λ i. slice_index_or flags i false ≡ true) e f)))
        (cases_lt j k);
  }
