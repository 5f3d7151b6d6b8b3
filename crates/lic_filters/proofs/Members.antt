-- The members of lists.
use Rattle.std.proofs.Common.{◌≡◌, ◌↔◌, zero, suc, Bool, true, false, cond, not, ◌||◌, ◌⊎◌, List, [], ◌∷◌, refl, sym, ap, ◌∙◌, subst, inl, inr, ⊎_elim, arith}
use Rattle.std.proofs.lemmas.Bool.{false≢true}
use Rattle.std.specs.List.{Contains, filter, list_any}

-- an element of a list is its first or one of the others
pub Contains-cons_cases : {A : Type 0} (x : A) (xs : List A) (y : A) → Contains (x ∷ xs) y → (x ≡ y) ⊎ Contains xs y
Contains-cons_cases x xs y (zero, h, e) = inl e
Contains-cons_cases x xs y (suc k, h, e) = inr (k, omega arith, e)

pub Contains-head : {A : Type 0} (x : A) (xs : List A) → Contains (x ∷ xs) x
Contains-head x xs = (0, omega arith, refl)

pub Contains-here : {A : Type 0} (x : A) (xs : List A) (y : A) → x ≡ y → Contains (x ∷ xs) y
Contains-here x xs y e = subst (Contains (x ∷ xs)) e (Contains-head x xs)

pub Contains-tail : {A : Type 0} (x : A) (xs : List A) (y : A) → Contains xs y → Contains (x ∷ xs) y
Contains-tail x xs y (k, h, e) = (suc k, omega arith, e)

pub Contains-nil : {A : Type 0} (x : A) → Contains [] x → ⊥
Contains-nil x (k, h, e) = omega arith

module _ {A : Type 0} (p : A → Bool) where
  -- a filter has the members that pass
  Contains-filter_cases : (x : A) (xs : List A) (y : A) (b : Bool) → p x ≡ b → Contains (cond b (x ∷ filter p xs) (filter p xs)) y →
      ((Contains (filter p xs) y → Contains xs y × (p y ≡ true)) → Contains (x ∷ xs) y × (p y ≡ true))
  Contains-filter_cases x xs y true passes h = λ rest.
      ⊎_elim (λ e. (Contains-here x xs y e, subst (λ z. p z ≡ true) e passes)) (λ later. (Contains-tail x xs y (rest later).0, (rest later).1))
      (Contains-cons_cases x (filter p xs) y h)
  Contains-filter_cases x xs y false fails h = λ rest. (Contains-tail x xs y (rest h).0, (rest h).1)

  Contains-from_filter : (xs : List A) (y : A) → Contains (filter p xs) y → Contains xs y × (p y ≡ true)
  Contains-from_filter [] y h = absurd (Contains-nil y h)
  Contains-from_filter (x ∷ xs) y h = Contains-filter_cases x xs y (p x) refl h (Contains-from_filter xs y)

  Contains-filter_more : (x : A) (xs : List A) (y : A) (b : Bool) → p x ≡ b → (x ≡ y) ⊎ Contains (filter p xs) y → p y ≡ true →
      Contains (cond b (x ∷ filter p xs) (filter p xs)) y
  Contains-filter_more x xs y true passes h known = ⊎_elim (Contains-here x (filter p xs) y) (Contains-tail x (filter p xs) y) h
  Contains-filter_more x xs y false fails h known =
      ⊎_elim (λ (e : x ≡ y). absurd (false≢true (sym fails ∙ ap p e ∙ known))) (λ later. later) h

  Contains-to_filter : (xs : List A) (y : A) → Contains xs y → p y ≡ true → Contains (filter p xs) y
  Contains-to_filter [] y h known = h
  Contains-to_filter (x ∷ xs) y h known =
      Contains-filter_more x xs y (p x) refl
      (⊎_elim (λ (e : x ≡ y). inl e) (λ later. inr (Contains-to_filter xs y later known)) (Contains-cons_cases x xs y h)) known

  pub Contains-filter : (xs : List A) (y : A) → Contains (filter p xs) y ↔ (Contains xs y × (p y ≡ true))
  Contains-filter xs y = (Contains-from_filter xs y, λ h. Contains-to_filter xs y h.0 h.1)

  -- a test that no member passes
  no_other : (x : A) (xs : List A) → not (p x || list_any p xs) ≡ true → (p x ≡ true → ⊥) × (not (list_any p xs) ≡ true)
  no_other x xs none =
      (elim (p x) as (λ b. not (b || list_any p xs) ≡ true → (b ≡ true → ⊥) × (not (list_any p xs) ≡ true)) [
        | true ↦ λ e. absurd (false≢true e)
        | false ↦ λ e. (λ f. false≢true f, e)
      ]) none

  none_passes : (xs : List A) → not (list_any p xs) ≡ true → (y : A) → Contains xs y → p y ≡ true → ⊥
  none_passes [] none y h passes = Contains-nil y h
  none_passes (x ∷ xs) none y h passes =
      ⊎_elim (λ (e : x ≡ y). (no_other x xs none).0 (ap p e ∙ passes)) (λ later. none_passes xs (no_other x xs none).1 y later passes)
      (Contains-cons_cases x xs y h)

  not_any : (xs : List A) → ((y : A) → Contains xs y → p y ≡ true → ⊥) → not (list_any p xs) ≡ true
  not_any [] none = refl
  not_any (x ∷ xs) none =
      (elim (p x) as (λ b. p x ≡ b → not (b || list_any p xs) ≡ true) [
        | true ↦ λ e. absurd (none x (Contains-head x xs) e)
        | false ↦ λ e. not_any xs (λ y h. none y (Contains-tail x xs y h))
      ]) refl

  pub not-list_any : (xs : List A) → (not (list_any p xs) ≡ true) ↔ ((y : A) → Contains xs y → p y ≡ true → ⊥)
  not-list_any xs = (none_passes xs, not_any xs)

  -- two tests that agree on the members keep the same of them
  pub filter-agree : (q : A → Bool) (xs : List A) → ((y : A) → Contains xs y → p y ≡ q y) → filter p xs ≡ filter q xs
  filter-agree q [] agree = refl
  filter-agree q (x ∷ xs) agree =
      let rest : filter p xs ≡ filter q xs = filter-agree q xs (λ y h. agree y (Contains-tail x xs y h)) in
      ap (λ b. cond b (x ∷ filter p xs) (filter p xs)) (agree x (Contains-head x xs)) ∙ ap (λ ys. cond (q x) (x ∷ ys) ys) rest

  pub list_any-agree : (q : A → Bool) (xs : List A) → ((y : A) → Contains xs y → p y ≡ q y) → list_any p xs ≡ list_any q xs
  list_any-agree q [] agree = refl
  list_any-agree q (x ∷ xs) agree =
      let rest : list_any p xs ≡ list_any q xs = list_any-agree q xs (λ y h. agree y (Contains-tail x xs y h)) in
      ap (λ b. b || list_any p xs) (agree x (Contains-head x xs)) ∙ ap (λ b. q x || b) rest

  -- a test that all members pass keeps them all
  pub filter-all : (xs : List A) → ((y : A) → Contains xs y → p y ≡ true) → filter p xs ≡ xs
  filter-all [] all = refl
  filter-all (x ∷ xs) all =
      ap (λ b. cond b (x ∷ filter p xs) (filter p xs)) (all x (Contains-head x xs)) ∙ ap (λ ys. x ∷ ys) (filter-all xs (λ y h. all y (Contains-tail x xs y h)))
