-- Words cut in two.
use Rattle.std.proofs.Common.{◌≡◌, ℕ, zero, suc, Bool, true, false, ◌&&◌, ◌||◌, [], ◌∷◌, ◌++◌, ◌⊎◌, inl, inr, refl, sym, subst}
use Rattle.lic_words.specs.Words.{Word, Cat, Power}
use Rattle.lic_marks.specs.Cores.{Star}

pub or_cases : (a b : Bool) → (a || b) ≡ true → (a ≡ true) ⊎ (b ≡ true)
or_cases true b h = inl refl
or_cases false b h = inr h

pub or_left : (a b : Bool) → a ≡ true → (a || b) ≡ true
or_left true b h = refl
or_left false b h = cc

pub or_right : (a b : Bool) → b ≡ true → (a || b) ≡ true
or_right true b h = refl
or_right false b h = h

pub and_left : (a b : Bool) → (a && b) ≡ true → a ≡ true
and_left true b h = refl
and_left false b h = h

pub and_right : (a b : Bool) → (a && b) ≡ true → b ≡ true
and_right true b h = h
and_right false b h = cc

pub and_both : (a b : Bool) → a ≡ true → b ≡ true → (a && b) ≡ true
and_both true b h k = k
and_both false b h k = h

module _ (P Q : Word → Type 0) where
  pub cat_nil_left : Cat P Q [] → P []
  cat_nil_left ([], v, p, q, e) = p
  cat_nil_left (c ∷ u, v, p, q, e) = cc

  pub cat_nil_right : Cat P Q [] → Q []
  cat_nil_right ([], v, p, q, e) = subst Q (sym e) q
  cat_nil_right (c ∷ u, v, p, q, e) = cc

  pub nil_cat : (w : Word) → P [] → Q w → Cat P Q w
  nil_cat w p q = ([], w, p, q, refl)

  pub cat_cons : (c : ℕ) (w : Word) → Cat P Q (c ∷ w) → (P [] × Q (c ∷ w)) ⊎ Cat (λ u. P (c ∷ u)) Q w
  cat_cons c w ([], v, p, q, e) = inl (p, subst Q (sym e) q)
  cat_cons c w (d ∷ u, v, p, q, e) =
      let same : d ≡ c = cc in
      let rest : w ≡ u ++ v = cc in
      inr (u, v, subst (λ x. P (x ∷ u)) same p, q, rest)

-- a row of words that is not empty has a first word that is not
pub power_cons : (P : Word → Type 0) (n : ℕ) (c : ℕ) (w : Word) →
    Power P n (c ∷ w) → Cat (λ u. P (c ∷ u)) (Star P) w
power_cons P zero c w h = cc
power_cons P (suc n) c w h =
    elim (cat_cons P (Power P n) c w h) [
      | inl b ↦ power_cons P n c w b.1
      | inr b ↦ (b.0, b.1, b.2, (n, b.3), b.4)
    ]
