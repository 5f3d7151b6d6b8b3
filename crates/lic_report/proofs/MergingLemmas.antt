-- Two ascending lists as one: what is in it, and in which order.
use Rattle.std.proofs.Common.{◌≡◌, ◌⊎◌, List, [], ◌∷◌, Option, None, Some, MatchOption, sym, subst, inl, inr, ⊎_elim}
use Rattle.std.specs.List.{Contains}
use Rattle.std.proofs.lemmas.Bool.{cases_Bool, cond-true, cond-false}
use Rattle.std.proofs.lemmas.Bool.Decides.{not_from_Decides}
use Rattle.lic_set.specs.Matches.{Precedes, AreAscending, precedes}
use Rattle.lic_set.specs.declared.triple.Triple.{Triple}
use Rattle.lic_bundles.proofs.TripleOrder.{Precedes-trans, not_before, Decides-precedes, Contains-cons_cases, Contains-head, Contains-tail, Contains-nil}
use Rattle.lic_report.specs.Merging.{merged, merged_with, with_next}

-- how the second list begins, and what is merged then
data MergedCases (x : Triple) (others : List Triple → List Triple) (y : Triple) (ys : List Triple) : Type 0 where
  before : Precedes x y → merged_with x others (y ∷ ys) ≡ x ∷ others (y ∷ ys) → MergedCases x others y ys
  after : (Precedes x y → ⊥) → merged_with x others (y ∷ ys) ≡ y ∷ merged_with x others ys → MergedCases x others y ys

merged_cases : (x : Triple) (others : List Triple → List Triple) (y : Triple) (ys : List Triple) → MergedCases x others y ys
merged_cases x others y ys =
    elim (cases_Bool (precedes x y)) [
      | inl holds ↦
          before ((Decides-precedes x y).0 holds)
          (cond-true (precedes x y) (x ∷ others (y ∷ ys)) (y ∷ merged_with x others ys) holds)
      | inr fails ↦
          after (not_from_Decides _ (Decides-precedes x y) fails)
          (cond-false (precedes x y) (x ∷ others (y ∷ ys)) (y ∷ merged_with x others ys) fails)
    ]

-- ---- what is in it

module _ (x : Triple) (xs : List Triple) (t : Triple)
    (known : (ys : List Triple) → Contains (merged xs ys) t → Contains xs t ⊎ Contains ys t) where
  in_first : (ys : List Triple) → Contains (x ∷ merged xs ys) t → Contains (x ∷ xs) t ⊎ Contains ys t
  in_first ys h =
      ⊎_elim (λ (e : x ≡ t). inl (subst (λ u. Contains (x ∷ xs) u) e (Contains-head x xs)))
      (λ k. ⊎_elim (λ m. inl (Contains-tail x xs t m)) (λ m. inr m) (known ys k)) (Contains-cons_cases x (merged xs ys) t h)

  in_either : (ys : List Triple) → Contains (merged (x ∷ xs) ys) t → Contains (x ∷ xs) t ⊎ Contains ys t
  in_either [] h = in_first [] h
  in_either (y ∷ ys) h =
      elim (merged_cases x (merged xs) y ys) [
        | before _ e ↦ in_first (y ∷ ys) (subst (λ l. Contains l t) e h)
        | after _ e ↦
            ⊎_elim (λ (same : y ≡ t). inr (subst (λ u. Contains (y ∷ ys) u) same (Contains-head y ys)))
            (λ k. ⊎_elim (λ m. inl m) (λ m. inr (Contains-tail y ys t m)) (in_either ys k))
            (Contains-cons_cases y (merged (x ∷ xs) ys) t (subst (λ l. Contains l t) e h))
      ]

-- each of the merged list is in one of the two
pub Contains-merged_cases : (xs ys : List Triple) (t : Triple) → Contains (merged xs ys) t → Contains xs t ⊎ Contains ys t
Contains-merged_cases [] ys t h = inr h
Contains-merged_cases (x ∷ xs) ys t h = in_either x xs t (λ zs k. Contains-merged_cases xs zs t k) ys h

module _ (x : Triple) (xs : List Triple) (t : Triple)
    (known : (ys : List Triple) → Contains xs t ⊎ Contains ys t → Contains (merged xs ys) t) where
  first_in : (ys : List Triple) → Contains (x ∷ xs) t ⊎ Contains ys t → Contains (x ∷ merged xs ys) t
  first_in ys h =
      ⊎_elim (λ k. ⊎_elim (λ (e : x ≡ t). subst (λ u. Contains (x ∷ merged xs ys) u) e (Contains-head x (merged xs ys)))
      (λ m. Contains-tail x (merged xs ys) t (known ys (inl m))) (Contains-cons_cases x xs t k))
      (λ k. Contains-tail x (merged xs ys) t (known ys (inr k))) h

  either_in : (ys : List Triple) → Contains (x ∷ xs) t ⊎ Contains ys t → Contains (merged (x ∷ xs) ys) t
  either_in [] h = first_in [] h
  either_in (y ∷ ys) h =
      elim (merged_cases x (merged xs) y ys) [
        | before _ e ↦ subst (λ l. Contains l t) (sym e) (first_in (y ∷ ys) h)
        | after _ e ↦
            subst (λ l. Contains l t) (sym e)
            (⊎_elim (λ k. Contains-tail y (merged (x ∷ xs) ys) t (either_in ys (inl k)))
            (λ k. ⊎_elim (λ (same : y ≡ t). subst (λ u. Contains (y ∷ merged (x ∷ xs) ys) u) same (Contains-head y (merged (x ∷ xs) ys)))
            (λ m. Contains-tail y (merged (x ∷ xs) ys) t (either_in ys (inr m))) (Contains-cons_cases y ys t k)) h)
      ]

-- each of the two is in the merged list
pub Contains-merged : (xs ys : List Triple) (t : Triple) → Contains xs t ⊎ Contains ys t → Contains (merged xs ys) t
Contains-merged [] ys t h = ⊎_elim (λ k. absurd (Contains-nil t k)) (λ k. k) h
Contains-merged (x ∷ xs) ys t h = either_in x xs t (λ zs k. Contains-merged xs zs t k) ys h

-- ---- in which order

-- no triple is in both
abbrev pub AreDisjoint : List Triple → List Triple → Type 0
AreDisjoint xs ys = (t : Triple) → Contains xs t → Contains ys t → ⊥

module _ (x : Triple) (xs : List Triple)
    (known : (ys : List Triple) → AreAscending xs → AreAscending ys → AreDisjoint xs ys → AreAscending (merged xs ys)) where
  -- where the first of the first list comes before all of the second
  first_ascends : (ys : List Triple) → AreAscending (x ∷ xs) → AreAscending ys → AreDisjoint (x ∷ xs) ys
      → ((t : Triple) → Contains ys t → Precedes x t) → AreAscending (x ∷ merged xs ys)
  first_ascends ys rise climb apart below = (
    λ t h. ⊎_elim (λ k. rise.0 t k) (λ k. below t k) (Contains-merged_cases xs ys t h),
    known ys rise.1 climb (λ t h k. apart t (Contains-tail x xs t h) k),
  )

  either_ascends : (ys : List Triple) → AreAscending (x ∷ xs) → AreAscending ys → AreDisjoint (x ∷ xs) ys
      → AreAscending (merged (x ∷ xs) ys)
  either_ascends [] rise climb apart = first_ascends [] rise climb apart (λ t h. absurd (Contains-nil t h))
  either_ascends (y ∷ ys) rise climb apart =
      elim (merged_cases x (merged xs) y ys) [
        | before below e ↦
            subst AreAscending (sym e)
            (first_ascends (y ∷ ys) rise climb apart
            (λ t h. ⊎_elim (λ (same : y ≡ t). subst (Precedes x) same below) (λ k. Precedes-trans x y t below (climb.0 t k)) (Contains-cons_cases y ys t h)))
        | after never e ↦
            let above : Precedes y x =
            ⊎_elim (λ (same : y ≡ x). absurd (apart y (subst (λ u. Contains (x ∷ xs) u) (sym same) (Contains-head x xs)) (Contains-head y ys))) (λ k. k)
            (not_before x y never) in
            let first : (t : Triple) → Contains (merged (x ∷ xs) ys) t → Precedes y t =
            λ t h. ⊎_elim (λ k. ⊎_elim (λ (same : x ≡ t). subst (Precedes y) same above) (λ m. Precedes-trans y x t above (rise.0 t m)) (Contains-cons_cases x xs t k))
            (λ k. climb.0 t k) (Contains-merged_cases (x ∷ xs) ys t h) in
            let others : AreAscending (merged (x ∷ xs) ys) = either_ascends ys rise climb.1 (λ t h k. apart t h (Contains-tail y ys t k)) in
            let whole : AreAscending (y ∷ merged (x ∷ xs) ys) = (first, others) in
            subst AreAscending (sym e) whole
      ]

-- two ascending lists that have no triple in common are merged into an ascending one
pub AreAscending-merged : (xs ys : List Triple) → AreAscending xs → AreAscending ys → AreDisjoint xs ys → AreAscending (merged xs ys)
AreAscending-merged [] ys rise climb apart = climb
AreAscending-merged (x ∷ xs) ys rise climb apart =
    either_ascends x xs (λ zs r c a. AreAscending-merged xs zs r c a) ys rise climb apart

-- ---- one at a time

-- the next triple and what comes after it are what there was
pub with_next-step : (next : Option Triple) (old new : List Triple) → MatchOption next ((old ≡ []) × (new ≡ [])) (λ t. old ≡ t ∷ new)
    → with_next next new ≡ old
with_next-step None old new e = sym e.0
with_next-step (Some t) old new e = sym e
