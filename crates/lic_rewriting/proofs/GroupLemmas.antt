-- The groups of a list, and the list.
use Rattle.std.proofs.Common.{◌≡◌, Bool, List, [], ◌∷◌, refl, ap, ◌∙◌, inl, inr}
use Rattle.std.specs.List.{flat_map}
use Rattle.std.proofs.lemmas.Bool.{cases_Bool, cond-true, cond-false}
use Rattle.lic_trim.specs.Texts.{groups, join_group}

pub parts_of_groups : {A : Type 0} (together : A → A → Bool) (xs : List A) → flat_map (λ part. part) (groups together xs) ≡ xs
parts_of_groups together [] = refl
parts_of_groups {A} together (x ∷ xs) = join (groups together xs) ∙ ap (λ l. x ∷ l) (parts_of_groups together xs)
  where
    join : (gs : List (List A)) → flat_map (λ part. part) (join_group together x gs) ≡ x ∷ flat_map (λ part. part) gs
    join [] = refl
    join ([] ∷ gs) = refl
    join ((y ∷ g) ∷ gs) =
        elim (cases_Bool (together x y)) [
          | inl both ↦ ap (flat_map (λ part. part)) (cond-true (together x y) ((x ∷ y ∷ g) ∷ gs) ((x ∷ []) ∷ (y ∷ g) ∷ gs) both)
          | inr apart ↦ ap (flat_map (λ part. part)) (cond-false (together x y) ((x ∷ y ∷ g) ∷ gs) ((x ∷ []) ∷ (y ∷ g) ∷ gs) apart)
        ]
