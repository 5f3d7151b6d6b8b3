-- Whether a word is one of an expression's.
use Rattle.std.proofs.Common.{◌≡◌, ℕ, zero, suc, ◌+◌, ◌≤◌, ◌⊎◌, inl, inr, Bool, true, false, Option, Some, None, [], ◌∷◌, ◌++◌, length, length-append, refl, sym, ap, ◌∙◌, subst, arith}
use Rattle.std.proofs.lemmas.Bool.{cases_eq, cases_Bool, cases_lt, true≢false}
use Rattle.lic_words.specs.Words.{Word, Cat, IsTidy, Power, blank}
use Rattle.lic_words.specs.Expressions.{Expression, IsAtMost, Language, alt, cat, empty, none, one, repeat, tidy}

abbrev pub Decided : Type 0 → Type 0
Decided D = D ⊎ ¬ D

decided-same : (D E : Type 0) → (D → E) → (E → D) → Decided D → Decided E
decided-same D E to from (inl is) = inl (to is)
decided-same D E to from (inr not) = inr (λ is. not (from is))

pub decided-both : (D E : Type 0) → Decided D → Decided E → Decided (D × E)
decided-both D E (inl d) (inl e) = inl (d, e)
decided-both D E (inl d) (inr e) = inr (λ both. e both.1)
decided-both D E (inr d) _ = inr (λ both. d both.0)

decided-or : (D E : Type 0) → Decided D → Decided E → Decided (D ⊎ E)
decided-or D E (inl d) _ = inl (inl d)
decided-or D E (inr d) (inl e) = inl (inr e)
decided-or D E (inr d) (inr e) = inr (λ any. elim any [ inl x ↦ d x | inr y ↦ e y ])

decided-not : (D : Type 0) → Decided D → Decided (¬ D)
decided-not D (inl d) = inr (λ not. not d)
decided-not D (inr d) = inl d

-- a number up to a bound
decided-within : (n : ℕ) (R : ℕ → Type 0) → ((k : ℕ) → Decided (R k)) → Decided ((k : ℕ) × (k ≤ n) × R k)
decided-within zero R each =
    decided-same (R 0) ((k : ℕ) × (k ≤ 0) × R k) (λ is. (0, omega arith, is)) (λ found. let same : found.0 ≡ 0 = omega (arith, found.1) in subst R same found.2) (each 0)
decided-within (suc n) R each =
    decided-same (R (suc n) ⊎ ((k : ℕ) × (k ≤ n) × R k)) ((k : ℕ) × (k ≤ suc n) × R k) to from (decided-or _ _ (each (suc n)) (decided-within n R each))
  where
    to : R (suc n) ⊎ ((k : ℕ) × (k ≤ n) × R k) → (k : ℕ) × (k ≤ suc n) × R k
    to (inl last) = (suc n, omega arith, last)
    to (inr before) = (before.0, omega (arith, before.1), before.2)

    from : (k : ℕ) × (k ≤ suc n) × R k → R (suc n) ⊎ ((k : ℕ) × (k ≤ n) × R k)
    from found = elim (cases_lt n found.0) [
      | inl more ↦ inl (let same : found.0 ≡ suc n = omega (arith, more, found.1) in subst R same found.2)
      | inr le ↦ inr (found.0, le, found.2)
    ]

-- ---- words in two parts

is_empty : (w : Word) → Decided (w ≡ [])
is_empty [] = inl refl
is_empty (c ∷ w) = inr (λ e. cc)

decided-cat : (w : Word) (P Q : Word → Type 0) → ((u : Word) → Decided (P u)) → ((v : Word) → Decided (Q v)) → Decided (Cat P Q w)
decided-cat [] P Q p q = decided-same (P [] × Q []) (Cat P Q []) (λ both. ([], [], both.0, both.1, refl)) from (decided-both _ _ (p []) (q []))
  where
    from : Cat P Q [] → P [] × Q []
    from ([], v, a, b, e) = (a, subst Q (sym e) b)
    from (c ∷ u, v, a, b, e) = absurd cc
decided-cat (c ∷ w) P Q p q =
    decided-same ((P [] × Q (c ∷ w)) ⊎ Cat (λ u. P (c ∷ u)) Q w) (Cat P Q (c ∷ w)) to from
    (decided-or _ _ (decided-both _ _ (p []) (q (c ∷ w))) (decided-cat w (λ u. P (c ∷ u)) Q (λ u. p (c ∷ u)) q))
  where
    to : (P [] × Q (c ∷ w)) ⊎ Cat (λ u. P (c ∷ u)) Q w → Cat P Q (c ∷ w)
    to (inl both) = ([], c ∷ w, both.0, both.1, refl)
    to (inr (u, v, a, b, e)) = (c ∷ u, v, a, b, ap (λ x. c ∷ x) e)

    from : Cat P Q (c ∷ w) → (P [] × Q (c ∷ w)) ⊎ Cat (λ u. P (c ∷ u)) Q w
    from ([], v, a, b, e) = inl (a, subst Q (sym e) b)
    from (d ∷ u, v, a, b, e) =
        let same : d ≡ c = cc in
        let rest : w ≡ u ++ v = cc in
        inr (u, v, subst (λ x. P (x ∷ u)) same a, b, rest)

-- ---- words in a row

decided-power : (P : Word → Type 0) → ((u : Word) → Decided (P u)) → (k : ℕ) (w : Word) → Decided (Power P k w)
decided-power P p zero w = is_empty w
decided-power P p (suc k) w = decided-cat w P (Power P k) p (decided-power P p k)

-- a number of words in a row: empty ones beyond the least number can be left out
record IsPowerWithin (P : Word → Type 0) (min bound : ℕ) (w : Word) : Type 0 where
  count : ℕ
  least : min ≤ count
  most : count ≤ bound
  power : Power P count w

few : (P : Word → Type 0) (min k : ℕ) (w : Word) → min ≤ k → Power P k w → IsPowerWithin P min (min + length w) w
few P min zero w least power = record { count = 0; least = least; most = omega arith; power = power }
few P zero (suc k) w least (u, v, a, b, e) = by u a e (few P zero k v (omega arith) b)
  where
    by : (u : Word) → P u → w ≡ u ++ v → IsPowerWithin P 0 (0 + length v) v → IsPowerWithin P 0 (0 + length w) w
    by [] a e rest = subst (λ x. IsPowerWithin P 0 (0 + length x) x) (sym e) rest
    by (c ∷ u) a e rest = record {
      count = suc rest.count;
      least = omega arith;
      most = omega (arith, rest.most, ap length e, length-append u v);
      power = (c ∷ u, v, a, rest.power, e);
    }
few P (suc min) (suc k) w least (u, v, a, b, e) =
    let rest = few P min k v (omega (arith, least)) b in
    record {
      count = suc rest.count;
      least = omega (arith, rest.least);
      most = omega (arith, rest.most, ap length e, length-append u v);
      power = (u, v, a, rest.power, e);
    }

decided-le : (a b : ℕ) → Decided (a ≤ b)
decided-le a b = elim (cases_lt b a) [ inl less ↦ inr (λ le. omega (arith, less, le)) | inr le ↦ inl le ]

module _ (P : Word → Type 0) (p : (u : Word) → Decided (P u)) (min : ℕ) (w : Word) where
  abbrev Enough : ℕ → Type 0
  Enough k = (min ≤ k) × Power P k w

  enough : (k : ℕ) → Decided (Enough k)
  enough k = decided-both _ _ (decided-le min k) (decided-power P p k w)

  decided-repeat : (max : Option ℕ) → Decided ((k : ℕ) × (min ≤ k) × IsAtMost max k × Power P k w)
  decided-repeat (Some max) =
      decided-same ((k : ℕ) × (k ≤ max) × Enough k) ((k : ℕ) × (min ≤ k) × (k ≤ max) × Power P k w)
      (λ found. (found.0, found.2.0, found.1, found.2.1)) (λ found. (found.0, found.2, (found.1, found.3))) (decided-within max Enough enough)
  decided-repeat None =
      decided-same ((k : ℕ) × (k ≤ min + length w) × Enough k) ((k : ℕ) × (min ≤ k) × Unit {0} × Power P k w)
      (λ found. (found.0, found.2.0, tt, found.2.1)) (λ found. let is = few P min found.0 w found.1 found.3 in (is.count, is.most, (is.least, is.power)))
      (decided-within (min + length w) Enough enough)

-- ---- tidy words

first_blank : (w : Word) → Decided ((v : Word) × (w ≡ blank ∷ v))
first_blank [] = inr (λ is. let e = is.1 in cc)
first_blank (c ∷ w) = elim (cases_eq c blank) [
  | inl same ↦ inl (w, ap (λ x. x ∷ w) same)
  | inr other ↦ inr (λ is. other (let e = is.1 in cc))
]

last_blank : (w : Word) → Decided (w ≡ blank ∷ [])
last_blank [] = inr (λ e. cc)
last_blank (c ∷ w) = decided-same ((c ≡ blank) × (w ≡ [])) (c ∷ w ≡ blank ∷ []) (λ both. let e = both.0 in let f = both.1 in cc) (λ e. (cc, cc))
    (decided-both _ _ (cases_eq c blank) (is_empty w))

two_blanks : (w : Word) → Decided ((v : Word) × (w ≡ blank ∷ blank ∷ v))
two_blanks [] = inr (λ is. let e = is.1 in cc)
two_blanks (c ∷ w) = decided-same ((c ≡ blank) × ((v : Word) × (w ≡ blank ∷ v))) ((v : Word) × (c ∷ w ≡ blank ∷ blank ∷ v))
    (λ both. (both.1.0, let e = both.0 in let f = both.1.1 in cc)) (λ is. let e = is.1 in (cc, (is.0, cc)))
    (decided-both _ _ (cases_eq c blank) (first_blank w))

abbrev IsAny : Word → Type 0
IsAny w = Unit {0}

any : (w : Word) → Decided (IsAny w)
any w = inl tt

module _ (w : Word) where
  abbrev First : Type 0
  First = (v : Word) × (w ≡ blank ∷ v)

  abbrev Last : Type 0
  Last = Cat IsAny (λ v. v ≡ blank ∷ []) w

  abbrev Two : Type 0
  Two = Cat IsAny (λ v. (x : Word) × (v ≡ blank ∷ blank ∷ x)) w

  to_tidy : ¬ First × (¬ Last × ¬ Two) → IsTidy w
  to_tidy h = record {
    not_first = λ v e. h.0 (v, e);
    not_last = λ u e. h.1.0 (u, blank ∷ [], tt, refl, e);
    not_two = λ u v e. h.1.1 (u, blank ∷ blank ∷ v, tt, (v, refl), e);
  }

  of_tidy : IsTidy w → ¬ First × (¬ Last × ¬ Two)
  of_tidy is = (
    λ f. is.not_first f.0 f.1,
    (λ l. is.not_last l.0 (l.4 ∙ ap (λ x. l.0 ++ x) l.3), λ t. is.not_two t.0 t.3.0 (t.4 ∙ ap (λ x. t.0 ++ x) t.3.1)),
  )

  decided-tidy : Decided (IsTidy w)
  decided-tidy =
      decided-same (¬ First × (¬ Last × ¬ Two)) (IsTidy w) to_tidy of_tidy
      (decided-both _ _ (decided-not First (first_blank w))
      (decided-both _ _ (decided-not Last (decided-cat w IsAny (λ v. v ≡ blank ∷ []) any last_blank))
      (decided-not Two (decided-cat w IsAny (λ v. (x : Word) × (v ≡ blank ∷ blank ∷ x)) any two_blanks))))

-- ---- expressions

decided-one : (passes : ℕ → Bool) (w : Word) → Decided ((c : ℕ) × (passes c ≡ true) × (w ≡ c ∷ []))
decided-one passes [] = inr (λ h. let e = h.2 in cc)
decided-one passes (c ∷ w) =
    decided-same ((passes c ≡ true) × (w ≡ [])) ((d : ℕ) × (passes d ≡ true) × (c ∷ w ≡ d ∷ []))
    (λ both. (c, both.0, ap (λ x. c ∷ x) both.1)) (λ h. let e = h.2 in let same : h.0 ≡ c = cc in (subst (λ x. passes x ≡ true) same h.1, cc))
    (decided-both _ _ (by (cases_Bool (passes c))) (is_empty w))
  where
    by : (passes c ≡ true) ⊎ (passes c ≡ false) → Decided (passes c ≡ true)
    by (inl is) = inl is
    by (inr not) = inr (λ is. true≢false (sym is ∙ not))

pub decided-language : (e : Expression) (w : Word) → Decided (Language e w)
decided-language empty w = is_empty w
decided-language (one passes) w = decided-one passes w
decided-language (cat a b) w = decided-cat w (Language a) (Language b) (decided-language a) (decided-language b)
decided-language none w = inr (λ h. h)
decided-language (alt a b) w = decided-or _ _ (decided-language a w) (decided-language b w)
decided-language (repeat min max a) w = decided-repeat (Language a) (decided-language a) min w max
decided-language (tidy a) w = decided-both _ _ (decided-language a w) (decided-tidy w)
