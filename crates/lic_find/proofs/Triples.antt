-- The order of triples, and lists in that order.
use Rattle.std.proofs.Common.{◌≡◌, zero, suc, ◌⊎◌, List, [], ◌∷◌, ◌++◌, refl, sym, ap, ◌∙◌, subst, inl, inr, ⊎_elim, arith}
use Rattle.std.specs.List.{Contains}
use Rattle.std.proofs.lemmas.Bool.{cases_order}
use Rattle.std.proofs.lemmas.List.Elements.{Contains-append_cases}
use Rattle.lic_set.specs.Matches.{Precedes, AreAscending, triple_at}
use Rattle.lic_set.specs.declared.triple.Triple.{Triple}

-- triples are the same if their numbers are
pub same_parts : (s t : Triple) → s.first ≡ t.first → s.last ≡ t.last → s.template ≡ t.template → t ≡ s
same_parts s t first last template =
    sym (ap (λ n. triple_at n s.last s.template) first ∙ (ap (λ n. triple_at t.first n s.template) last ∙ ap (λ n. triple_at t.first t.last n) template))

pub Precedes-itself : (t : Triple) → Precedes t t → ⊥
Precedes-itself t h = omega (arith, h)

pub Precedes-both : (s t : Triple) → Precedes s t → Precedes t s → ⊥
Precedes-both s t h k = omega (arith, h, k)

-- a triple that does not come before another is that one, or comes after it
pub not_before : (s t : Triple) → (Precedes s t → ⊥) → (t ≡ s) ⊎ Precedes t s
not_before s t never =
    elim (cases_order s.first t.first) [
      | inr (inl below) ↦ absurd (never (inl below))
      | inr (inr above) ↦ inr (inl above)
      | inl first ↦
          elim (cases_order s.last t.last) [
            | inr (inl below) ↦ absurd (never (inr (first, inl below)))
            | inr (inr above) ↦ inr (inr (sym first, inl above))
            | inl last ↦
                elim (cases_order s.template t.template) [
                  | inr (inl below) ↦ absurd (never (inr (first, inr (last, below))))
                  | inr (inr above) ↦ inr (inr (sym first, inr (sym last, above)))
                  | inl template ↦ inl (same_parts s t first last template)
                ]
          ]
    ]

pub Precedes-trans : (s t u : Triple) → Precedes s t → Precedes t u → Precedes s u
Precedes-trans s t u h k = grind (arith, h, k)

-- an element of a list is its first or one of the others
pub Contains-cons_cases : {A : Type 0} (x : A) (xs : List A) (y : A) → Contains (x ∷ xs) y → (x ≡ y) ⊎ Contains xs y
Contains-cons_cases x xs y (zero, h, e) = inl e
Contains-cons_cases x xs y (suc k, h, e) = inr (k, omega arith, e)

pub Contains-head : {A : Type 0} (x : A) (xs : List A) → Contains (x ∷ xs) x
Contains-head x xs = (0, omega arith, refl)

pub Contains-tail : {A : Type 0} (x : A) (xs : List A) (y : A) → Contains xs y → Contains (x ∷ xs) y
Contains-tail x xs y (k, h, e) = (suc k, omega arith, e)

pub Contains-nil : {A : Type 0} (x : A) → Contains [] x → ⊥
Contains-nil x (k, h, e) = omega arith

pub AreAscending-append : (xs ys : List Triple) → AreAscending xs → AreAscending ys →
    ((s t : Triple) → Contains xs s → Contains ys t → Precedes s t) → AreAscending (xs ++ ys)
AreAscending-append [] ys rise climb below = climb
AreAscending-append (x ∷ xs) ys rise climb below = (
  λ t h. ⊎_elim (rise.0 t) (λ k. below x t (Contains-head x xs) k) (Contains-append_cases xs ys t h),
  AreAscending-append xs ys rise.1 climb (λ s t h k. below s t (Contains-tail x xs s h) k),
)

-- the first of two lists in order that have the same members are the same
same_first : (x y : Triple) (xs ys : List Triple) → AreAscending (x ∷ xs) → AreAscending (y ∷ ys) →
    Contains (y ∷ ys) x → Contains (x ∷ xs) y → x ≡ y
same_first x y xs ys rise climb in_ys in_xs =
    ⊎_elim (λ (e : y ≡ x). sym e)
    (λ h. ⊎_elim (λ (e : x ≡ y). e) (λ k. absurd (Precedes-both x y (rise.0 y k) (climb.0 x h))) (Contains-cons_cases x xs y in_xs))
    (Contains-cons_cases y ys x in_ys)

members_after : (x : Triple) (xs ys : List Triple) → AreAscending (x ∷ xs) →
    ((t : Triple) → Contains (x ∷ xs) t → Contains (x ∷ ys) t) → (t : Triple) → Contains xs t → Contains ys t
members_after x xs ys rise members t h =
    ⊎_elim (λ (e : x ≡ t). absurd (Precedes-itself t (subst (λ s. Precedes s t) e (rise.0 t h)))) (λ k. k)
    (Contains-cons_cases x ys t (members t (Contains-tail x xs t h)))

-- two lists in order that have the same members are equal
pub same_from_members : (xs ys : List Triple) → AreAscending xs → AreAscending ys →
    ((t : Triple) → Contains xs t → Contains ys t) → ((t : Triple) → Contains ys t → Contains xs t) → xs ≡ ys
same_from_members [] [] rise climb to from = refl
same_from_members [] (y ∷ ys) rise climb to from = absurd (Contains-nil y (from y (Contains-head y ys)))
same_from_members (x ∷ xs) [] rise climb to from = absurd (Contains-nil x (to x (Contains-head x xs)))
same_from_members (x ∷ xs) (y ∷ ys) rise climb to from =
    let e : x ≡ y = same_first x y xs ys rise climb (to x (Contains-head x xs)) (from y (Contains-head y ys)) in
    let climb' : AreAscending (x ∷ ys) = subst (λ z. AreAscending (z ∷ ys)) (sym e) climb in
    let to' = members_after x xs ys rise (λ t h. subst (λ z. Contains (z ∷ ys) t) (sym e) (to t h)) in
    let from' = members_after x ys xs climb' (λ t h. from t (subst (λ z. Contains (z ∷ ys) t) e h)) in
    ap (λ z. z ∷ xs) e ∙ ap (λ zs. y ∷ zs) (same_from_members xs ys rise.1 climb.1 to' from')
