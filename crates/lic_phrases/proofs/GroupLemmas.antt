-- Groups of neighbours.
use Rattle.std.proofs.Common.{◌≡◌, Bool, List, [], ◌∷◌, refl, ⊎_elim}
use Rattle.std.proofs.lemmas.Bool.{cases_Bool, cond-true, cond-false}
use Rattle.lic_trim.specs.Texts.{groups, join_group}

module _ {A : Type 0} (together : A → A → Bool) where
  -- an element is the first of its group
  join_group-head : (x : A) (gs : List (List A)) → (g : List A) × (rest : List (List A)) × (join_group together x gs ≡ (x ∷ g) ∷ rest)
  join_group-head x [] = ([], [], refl)
  join_group-head x ([] ∷ gs) = ([], [] ∷ gs, refl)
  join_group-head x ((y ∷ g) ∷ gs) =
      ⊎_elim
      (λ joins. (y ∷ g, gs, cond-true (together x y) _ _ joins))
      (λ alone. ([], (y ∷ g) ∷ gs, cond-false (together x y) _ _ alone))
      (cases_Bool (together x y))

  -- the first group begins with the first element
  pub groups-head : (x : A) (xs : List A) → (g : List A) × (rest : List (List A)) × (groups together (x ∷ xs) ≡ (x ∷ g) ∷ rest)
  groups-head x xs = join_group-head x (groups together xs)
