-- The ends that were found so far, as a search continues from occurrence to occurrence.
use Rattle.std.proofs.Common.{◌≡◌, ℕ, ◌+◌, ◌-◌, ◌<◌, ◌≤◌, List, [], ◌∷◌, ◌++◌, length, sym, subst, arith}
use Rattle.std.specs.Prelude.{◌↔◌, slice_range}
use Rattle.std.specs.List.{Contains}
use Rattle.std.proofs.lemmas.Bool.{cases_lt}
use Rattle.std.proofs.lemmas.List.Elements.{Contains-append_left, Contains-push, Contains-push_cases}
use Rattle.std.proofs.Math.Logic.{⊎_elim}
use Rattle.memchr.specs.Find.{NoneBefore, Nowhere, OccursAt}
use Rattle.lic_literals.specs.Ends.{EndsAt}
use Rattle.lic_literals.proofs.Occurring.{EndsAt-from_occurrence, OccursAt-from_end, occurs_in_part, occurs_within, part_length}

-- an end in the window, and below n
abbrev pub IsEnd : List ℕ → List ℕ → ℕ → ℕ → ℕ → ℕ → Type 0
IsEnd bytes literal from to n e = (from ≤ e) × (e ≤ to) × EndsAt bytes literal e × (e < n)

module _ (bytes literal : List ℕ) (from to start : ℕ) (ends : List ℕ) (within : to ≤ length bytes) (before : start ≤ to) where
  -- the next occurrence begins at k in what is left
  module _ (k : ℕ) (low : from ≤ start + length literal)
      (old : (e : ℕ) → Contains ends e ↔ IsEnd bytes literal from to (start + length literal) e)
      (first : NoneBefore (OccursAt (slice_range bytes start to) literal) 0 (length (slice_range bytes start to) + 1) k)
      (occurs : OccursAt (slice_range bytes start to) literal k) where
    here : IsEnd bytes literal from to (start + (k + 1) + length literal) (start + k + length literal)
    here = (
      omega arith,
      omega (arith, occurs.fits, part_length bytes literal start to within before),
      EndsAt-from_occurrence bytes literal (start + k) (start + k + length literal) (occurs_within bytes literal start to within before k occurs) (omega arith),
      omega arith,
    )

    no_other : (e : ℕ) → EndsAt bytes literal e → e ≤ to → start + length literal ≤ e → e < start + (k + 1) + length literal → e ≡ start + k + length literal
    no_other e ends_at high later early =
        let p = ends_at.start in
        let inside : OccursAt (slice_range bytes start to) literal (p - start) =
        occurs_in_part bytes literal start to within before p (OccursAt-from_end bytes literal p e ends_at ends_at.end)
        (omega (arith, ends_at.end)) (omega (arith, ends_at.end)) in
        ⊎_elim
        (λ (sooner : p - start < k). absurd (first.before (p - start) (omega arith) sooner inside))
        (λ (not_sooner : k ≤ p - start). omega (arith, ends_at.end))
        (cases_lt (p - start) k)

    pub found_more : (e : ℕ) → Contains (ends ++ (start + k + length literal) ∷ []) e ↔ IsEnd bytes literal from to (start + (k + 1) + length literal) e
    found_more e = (
      λ inside.
          ⊎_elim
          (λ (earlier : Contains ends e). let (a, b, c, d) = (old e).0 earlier in (a, b, c, omega (arith, d)))
          (λ (now : start + k + length literal ≡ e). subst (IsEnd bytes literal from to (start + (k + 1) + length literal)) now here)
          (Contains-push_cases ends (start + k + length literal) e inside),
      λ (a, b, c, d).
          ⊎_elim
          (λ (earlier : e < start + length literal).
          Contains-append_left ends ((start + k + length literal) ∷ []) e ((old e).1 (a, b, c, earlier)))
          (λ (later : start + length literal ≤ e).
          subst (Contains (ends ++ (start + k + length literal) ∷ [])) (sym (no_other e c b later d))
          (Contains-push ends (start + k + length literal)))
          (cases_lt e (start + length literal)),
    )

  -- no occurrence begins in what is left
  pub none_later : Nowhere (OccursAt (slice_range bytes start to) literal) 0 (length (slice_range bytes start to) + 1) → (e : ℕ) →
      EndsAt bytes literal e → e ≤ to → e < start + length literal
  none_later nowhere e ends_at high =
      ⊎_elim
      (λ (earlier : e < start + length literal). earlier)
      (λ (later : start + length literal ≤ e).
      let p = ends_at.start in
      absurd (nowhere (p - start) (omega arith)
      (omega (arith, ends_at.end, part_length bytes literal start to within before))
      (occurs_in_part bytes literal start to within before p (OccursAt-from_end bytes literal p e ends_at ends_at.end)
      (omega (arith, ends_at.end)) (omega (arith, ends_at.end)))))
      (cases_lt e (start + length literal))
