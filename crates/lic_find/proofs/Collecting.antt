-- Lists that have exactly the triples of which something holds, in order.
use Rattle.std.proofs.Common.{◌≡◌, ℕ, zero, suc, ◌+◌, ◌<◌, ◌≤◌, ◌⊎◌, ◌↔◌, Bool, true, List, [], ◌∷◌, ◌++◌, sym, ap, ◌∙◌, inl, inr, ⊎_elim, subst, arith}
use Rattle.std.specs.List.{Contains, filter, flat_map, range_with_len}
use Rattle.std.proofs.lemmas.Bool.{cases_lt, cond_both, cond-true}
use Rattle.std.proofs.lemmas.List.Elements.{Contains-append_left, Contains-append_right, Contains-append_cases}
use Rattle.lic_set.specs.Matches.{Precedes, AreAscending}
use Rattle.lic_set.specs.declared.triple.Triple.{Triple}
use Rattle.lic_find.proofs.Triples.{AreAscending-append, Contains-nil, Contains-head, Contains-tail, Contains-cons_cases}

-- the list has exactly the triples of which this holds, each once, in order
pub record Collects (P : Triple → Type 0) (found : List Triple) : Type 0 where
  pub ascending : AreAscending found
  pub exact : (t : Triple) → Contains found t ↔ P t

pub Collects-none : (P : Triple → Type 0) → ((t : Triple) → P t → ⊥) → Collects P []
Collects-none P none = record { ascending = tt; exact = λ t. (λ h. absurd (Contains-nil t h), λ p. absurd (none t p)) }

pub Collects-one : (s : Triple) → Collects (λ t. s ≡ t) (s ∷ [])
Collects-one s = record {
  ascending = (λ t h. absurd (Contains-nil t h), tt);
  exact = λ t. (
    λ h. ⊎_elim (λ (e : s ≡ t). e) (λ k. absurd (Contains-nil t k)) (Contains-cons_cases s [] t h),
    λ e. subst (λ u. Contains (s ∷ []) u) e (Contains-head s []),
  );
}

pub Collects-same : (P Q : Triple → Type 0) (found : List Triple) → Collects P found → ((t : Triple) → P t → Q t) → ((t : Triple) → Q t → P t) →
    Collects Q found
Collects-same P Q found c to from = record { ascending = c.ascending; exact = λ t. (λ h. to t ((c.exact t).0 h), λ q. (c.exact t).1 (from t q)) }

-- two lists, one before the other
pub Collects-append : (P Q : Triple → Type 0) (xs ys : List Triple) → Collects P xs → Collects Q ys → ((s t : Triple) → P s → Q t → Precedes s t) →
    Collects (λ t. P t ⊎ Q t) (xs ++ ys)
Collects-append P Q xs ys c d apart = record {
  ascending = AreAscending-append xs ys c.ascending d.ascending (λ s t h k. apart s t ((c.exact s).0 h) ((d.exact t).0 k));
  exact = λ t. (
    λ h. ⊎_elim (λ k. inl ((c.exact t).0 k)) (λ k. inr ((d.exact t).0 k)) (Contains-append_cases xs ys t h),
    λ e. ⊎_elim (λ p. Contains-append_left xs ys t ((c.exact t).1 p)) (λ q. Contains-append_right xs ys t ((d.exact t).1 q)) e,
  );
}

-- a list for each number, one after another
module _ (P : ℕ → Triple → Type 0) (f : ℕ → List Triple) (each : (k : ℕ) → Collects (P k) (f k))
    (apart : (i j : ℕ) (s t : Triple) → i < j → P i s → P j t → Precedes s t) where
  pub Collects-rows : (a n : ℕ) → Collects (λ t. (k : ℕ) × (a ≤ k) × (k < a + n) × P k t) (flat_map f (range_with_len a n))
  Collects-rows a zero = Collects-none _ (λ t (k, low, high, p). omega arith)
  Collects-rows a (suc n) =
      Collects-same (λ t. P a t ⊎ ((k : ℕ) × (a + 1 ≤ k) × (k < a + 1 + n) × P k t)) (λ t. (k : ℕ) × (a ≤ k) × (k < a + suc n) × P k t)
      (f a ++ flat_map f (range_with_len (a + 1) n))
      (Collects-append (P a) (λ t. (k : ℕ) × (a + 1 ≤ k) × (k < a + 1 + n) × P k t) (f a) (flat_map f (range_with_len (a + 1) n))
      (each a) (Collects-rows (a + 1) n) (λ s t p (k, low, high, q). apart a k s t (omega arith) p q))
      (λ t h. ⊎_elim (λ p. (a, omega arith, omega arith, p)) (λ (k, low, high, p). (k, omega arith, omega arith, p)) h)
      (λ t (k, low, high, p).
      ⊎_elim (λ (more : a < k). inr (k, omega arith, omega arith, p))
      (λ (less : k ≤ a). let same : k ≡ a = omega arith in inl (subst (λ i. P i t) same p)) (cases_lt a k))

module _ (p : Triple → Bool) where
  Contains-filter : (xs : List Triple) (t : Triple) → Contains (filter p xs) t → Contains xs t × (p t ≡ true)
  Contains-filter [] t h = absurd (Contains-nil t h)
  Contains-filter (x ∷ xs) t h =
      cond_both (p x) (x ∷ filter p xs) (filter p xs) (λ ys. Contains ys t → Contains (x ∷ xs) t × (p t ≡ true))
      (λ passes k.
      ⊎_elim (λ (e : x ≡ t). (subst (λ u. Contains (x ∷ xs) u) e (Contains-head x xs), ap p (sym e) ∙ passes))
      (λ m. let r = Contains-filter xs t m in (Contains-tail x xs t r.0, r.1)) (Contains-cons_cases x (filter p xs) t k))
      (λ fails k. let r = Contains-filter xs t k in (Contains-tail x xs t r.0, r.1)) h

  filter-Contains : (xs : List Triple) (t : Triple) → Contains xs t → p t ≡ true → Contains (filter p xs) t
  filter-Contains [] t h passes = absurd (Contains-nil t h)
  filter-Contains (x ∷ xs) t h passes =
      ⊎_elim
      (λ (e : x ≡ t).
      subst (λ ys. Contains ys t) (sym (cond-true (p x) (x ∷ filter p xs) (filter p xs) (ap p e ∙ passes)))
      (subst (λ u. Contains (x ∷ filter p xs) u) e (Contains-head x (filter p xs))))
      (λ k.
      cond_both (p x) (x ∷ filter p xs) (filter p xs) (λ ys. Contains ys t)
      (λ there. Contains-tail x (filter p xs) t (filter-Contains xs t k passes)) (λ there. filter-Contains xs t k passes))
      (Contains-cons_cases x xs t h)

  AreAscending-filter : (xs : List Triple) → AreAscending xs → AreAscending (filter p xs)
  AreAscending-filter [] rise = tt
  AreAscending-filter (x ∷ xs) rise =
      cond_both (p x) (x ∷ filter p xs) (filter p xs) AreAscending
      (λ passes. (λ t h. rise.0 t (Contains-filter xs t h).0, AreAscending-filter xs rise.1)) (λ fails. AreAscending-filter xs rise.1)

  -- those that pass a test
  pub Collects-filter : (P : Triple → Type 0) (xs : List Triple) → Collects P xs → Collects (λ t. P t × (p t ≡ true)) (filter p xs)
  Collects-filter P xs c = record {
    ascending = AreAscending-filter xs c.ascending;
    exact = λ t. (
      λ h. let r = Contains-filter xs t h in ((c.exact t).0 r.0, r.1),
      λ h. filter-Contains xs t ((c.exact t).1 h.0) h.1,
    );
  }
