-- The least record of a set of records, or that there is none, where sets are put together.
use Rattle.std.proofs.Common.{◌≡◌, ℕ, ◌<◌, ◌≤◌, ◌⊎◌, inl, inr, List, [], ◌∷◌, refl, sym, subst, arith}
use Rattle.std.proofs.lemmas.Bool.{cases_lt}
use Rattle.lic_vars.specs.Derivations.{NotAfter}

-- one of the records, and no other comes before it
pub record IsLeastOf (P : List ℕ → Type 0) (r : List ℕ) : Type 0 where
  pub is : P r
  pub least : (q : List ℕ) → P q → NotAfter r q

-- a least one, or none
pub data Found (P : List ℕ → Type 0) : Type 0 where
  least : (r : List ℕ) → IsLeastOf P r → Found P
  none : ((r : List ℕ) → ¬ (P r)) → Found P

-- ---- the order of records

not_after_total : (xs ys : List ℕ) → NotAfter xs ys ⊎ NotAfter ys xs
not_after_total [] ys = inl tt
not_after_total (x ∷ xs) [] = inr tt
not_after_total (x ∷ xs) (y ∷ ys) = by (cases_lt x y) (cases_lt y x) (not_after_total xs ys)
  where
    by : (x < y) ⊎ (y ≤ x) → (y < x) ⊎ (x ≤ y) → NotAfter xs ys ⊎ NotAfter ys xs → NotAfter (x ∷ xs) (y ∷ ys) ⊎ NotAfter (y ∷ ys) (x ∷ xs)
    by (inl less) _ _ = inl (inl less)
    by (inr _) (inl less) _ = inr (inl less)
    by (inr le) (inr ge) (inl rest) = inl (inr (omega arith, rest))
    by (inr le) (inr ge) (inr rest) = inr (inr (omega arith, rest))

not_after_trans : (xs ys zs : List ℕ) → NotAfter xs ys → NotAfter ys zs → NotAfter xs zs
not_after_trans [] ys zs h k = tt
not_after_trans (x ∷ xs) [] zs h k = absurd h
not_after_trans (x ∷ xs) (y ∷ ys) [] h k = absurd k
not_after_trans (x ∷ xs) (y ∷ ys) (z ∷ zs) h k = by (not_after_trans xs ys zs) h k
  where
    by : (NotAfter xs ys → NotAfter ys zs → NotAfter xs zs) → (x < y) ⊎ ((x ≡ y) × NotAfter xs ys) → (y < z) ⊎ ((y ≡ z) × NotAfter ys zs) → (x < z) ⊎ ((x ≡ z) × NotAfter xs zs)
    by rest (inl l) (inl m) = inl (omega arith)
    by rest (inl l) (inr m) = inl (let e = m.0 in omega arith)
    by rest (inr l) (inl m) = inl (let e = l.0 in omega arith)
    by rest (inr l) (inr m) = inr (let e = l.0 in let f = m.0 in omega arith, rest l.1 m.1)

-- ---- sets of records

pub found-same : (P Q : List ℕ → Type 0) → ((r : List ℕ) → P r → Q r) → ((r : List ℕ) → Q r → P r) → Found P → Found Q
found-same P Q to from (least r h) = least r (record { is = to r h.is; least = λ q k. h.least q (from q k) })
found-same P Q to from (none never) = none (λ r k. never r (from r k))

pub found-or : (P Q : List ℕ → Type 0) → Found P → Found Q → Found (λ r. P r ⊎ Q r)
found-or P Q (none never) (none neither) = none (λ r h. elim h [ inl p ↦ never r p | inr q ↦ neither r q ])
found-or P Q (none never) (least r h) =
    least r (record { is = inr h.is; least = λ q k. elim k [ inl p ↦ absurd (never q p) | inr x ↦ h.least q x ] })
found-or P Q (least r h) (none never) =
    least r (record { is = inl h.is; least = λ q k. elim k [ inl p ↦ h.least q p | inr x ↦ absurd (never q x) ] })
found-or P Q (least r h) (least s k) = by (not_after_total r s)
  where
    by : NotAfter r s ⊎ NotAfter s r → Found (λ t. P t ⊎ Q t)
    by (inl first) =
        least r (record { is = inl h.is; least = λ q l. elim l [ inl p ↦ h.least q p | inr x ↦ not_after_trans r s q first (k.least q x) ] })
    by (inr first) =
        least s (record { is = inr k.is; least = λ q l. elim l [ inl p ↦ not_after_trans s r q first (h.least q p) | inr x ↦ k.least q x ] })

-- with a number in front
pub found-next : (n : ℕ) (P : List ℕ → Type 0) → Found P → Found (λ r. (q : List ℕ) × (r ≡ n ∷ q) × P q)
found-next n P (none never) = none (λ r h. never h.0 h.2)
found-next n P (least s h) = least (n ∷ s) (record {
  is = (s, refl, h.is);
  least = λ q k. subst (NotAfter (n ∷ s)) (sym k.1) (inr (refl, h.least k.0 k.2));
})

pub found-if : (D : Type 0) (P : List ℕ → Type 0) → D ⊎ ¬ D → (D → Found P) → Found (λ r. D × P r)
found-if D P (inr not) found = none (λ r h. not h.0)
found-if D P (inl is) found = found-same P (λ r. D × P r) (λ r h. (is, h)) (λ r h. h.1) (found is)
