-- Lists of triples in order.
use Rattle.std.proofs.Common.{◌≡◌, ◌∙◌, ◌↔◌, Bool, true, List, [], ◌∷◌, refl, sym, ap, subst, ⊎_elim, arith}
use Rattle.std.specs.List.{Contains, filter}
use Rattle.std.proofs.lemmas.Bool.{cond_both}
use Rattle.lic_set.specs.Matches.{AreAscending, Precedes}
use Rattle.lic_set.specs.declared.triple.Triple.{Triple}
use Rattle.lic_filters.proofs.Members.{Contains-cons_cases, Contains-filter, Contains-head, Contains-nil, Contains-tail}

Precedes-itself : (t : Triple) → Precedes t t → ⊥
Precedes-itself t h = omega (arith, h)

Precedes-both : (s t : Triple) → Precedes s t → Precedes t s → ⊥
Precedes-both s t h k = omega (arith, h, k)

-- the first of two lists in order that have the same members are the same
same_first : (x y : Triple) (xs ys : List Triple) → AreAscending (x ∷ xs) → AreAscending (y ∷ ys) →
    Contains (y ∷ ys) x → Contains (x ∷ xs) y → x ≡ y
same_first x y xs ys rise climb in_ys in_xs =
    ⊎_elim (λ (e : y ≡ x). sym e)
    (λ h. ⊎_elim (λ (e : x ≡ y). e) (λ k. absurd (Precedes-both x y (rise.0 y k) (climb.0 x h))) (Contains-cons_cases x xs y in_xs))
    (Contains-cons_cases y ys x in_ys)

members_after : (x : Triple) (xs ys : List Triple) → AreAscending (x ∷ xs) →
    ((t : Triple) → Contains (x ∷ xs) t → Contains (x ∷ ys) t) → (t : Triple) → Contains xs t → Contains ys t
members_after x xs ys rise members t h =
    ⊎_elim (λ (e : x ≡ t). absurd (Precedes-itself t (subst (λ s. Precedes s t) e (rise.0 t h)))) (λ k. k)
    (Contains-cons_cases x ys t (members t (Contains-tail x xs t h)))

-- two lists in order that have the same members are equal
pub same_from_members : (xs ys : List Triple) → AreAscending xs → AreAscending ys →
    ((t : Triple) → Contains xs t → Contains ys t) → ((t : Triple) → Contains ys t → Contains xs t) → xs ≡ ys
same_from_members [] [] rise climb to from = refl
same_from_members [] (y ∷ ys) rise climb to from = absurd (Contains-nil y (from y (Contains-head y ys)))
same_from_members (x ∷ xs) [] rise climb to from = absurd (Contains-nil x (to x (Contains-head x xs)))
same_from_members (x ∷ xs) (y ∷ ys) rise climb to from =
    let e : x ≡ y = same_first x y xs ys rise climb (to x (Contains-head x xs)) (from y (Contains-head y ys)) in
    let climb' : AreAscending (x ∷ ys) = subst (λ z. AreAscending (z ∷ ys)) (sym e) climb in
    let to' = members_after x xs ys rise (λ t h. subst (λ z. Contains (z ∷ ys) t) (sym e) (to t h)) in
    let from' = members_after x ys xs climb' (λ t h. from t (subst (λ z. Contains (z ∷ ys) t) e h)) in
    ap (λ z. z ∷ xs) e ∙ ap (λ zs. y ∷ zs) (same_from_members xs ys rise.1 climb.1 to' from')

-- the list has exactly the triples of which this holds, each once, in order
pub record Collects (P : Triple → Type 0) (found : List Triple) : Type 0 where
  pub ascending : AreAscending found
  pub exact : (t : Triple) → Contains found t ↔ P t

module _ (p : Triple → Bool) where
  AreAscending-filter : (xs : List Triple) → AreAscending xs → AreAscending (filter p xs)
  AreAscending-filter [] rise = tt
  AreAscending-filter (x ∷ xs) rise =
      cond_both (p x) (x ∷ filter p xs) (filter p xs) AreAscending
      (λ passes. (λ t h. rise.0 t ((Contains-filter p xs t).0 h).0, AreAscending-filter xs rise.1)) (λ fails. AreAscending-filter xs rise.1)

  -- those that pass a test
  pub Collects-filter : (P : Triple → Type 0) (xs : List Triple) → Collects P xs → Collects (λ t. P t × (p t ≡ true)) (filter p xs)
  Collects-filter P xs c = record {
    ascending = AreAscending-filter xs c.ascending;
    exact = λ t. (
      λ h. let r = (Contains-filter p xs t).0 h in ((c.exact t).0 r.0, r.1),
      λ h. (Contains-filter p xs t).1 ((c.exact t).1 h.0, h.1),
    );
  }
