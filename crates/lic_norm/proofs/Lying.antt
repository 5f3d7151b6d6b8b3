-- Things that lie in a source one after the other, each from its first byte up to the end of its last.
use Rattle.std.proofs.Common.{ℕ, zero, suc, ◌<◌, ◌≤◌, Bool, List, [], ◌∷◌, ◌++◌, take, drop, subst, sym, arith, inl, inr}
use Rattle.std.specs.Prelude.{filter}
use Rattle.std.proofs.lemmas.Bool.{cases_Bool, cond-true, cond-false}
use Rattle.lic_norm.specs.Spans.{StartsAt, EndsAt}

-- from one byte of the source up to another, no thing is empty, none begins before the one before it ends, and each starts where a source character does, and ends where one does
abbrev pub Lie : {A : Type 0} → List ℕ → (A → ℕ) → (A → ℕ) → ℕ → List A → ℕ → Type 0
Lie source start end from [] to = from ≤ to
Lie source start end from (x ∷ xs) to =
    (from ≤ start x) × (start x < end x) × StartsAt source (start x) × EndsAt source (end x)
    × Lie source start end (end x) xs to

module _ {A : Type 0} (source : List ℕ) (start end : A → ℕ) where
  pub Lie-order : (from : ℕ) (xs : List A) (to : ℕ) → Lie source start end from xs to → from ≤ to
  Lie-order from [] to l = l
  Lie-order from (x ∷ xs) to l = omega (arith, l.0, l.1, Lie-order (end x) xs to l.4)

  pub Lie-wider : (from' from : ℕ) (xs : List A) (to to' : ℕ) → from' ≤ from → to ≤ to' → Lie source start end from xs to → Lie source start end from' xs to'
  Lie-wider from' from [] to to' low high l = omega (arith, l)
  Lie-wider from' from (x ∷ xs) to to' low high l = (omega (arith, l.0), l.1, l.2, l.3, Lie-wider (end x) (end x) xs to to' (omega arith) high l.4)

  pub Lie-append : (from : ℕ) (xs : List A) (mid : ℕ) (ys : List A) (to : ℕ) → Lie source start end from xs mid
      → Lie source start end mid ys to → Lie source start end from (xs ++ ys) to
  Lie-append from [] mid ys to l m = Lie-wider from mid ys to to l (omega arith) m
  Lie-append from (x ∷ xs) mid ys to l m = (l.0, l.1, l.2, l.3, Lie-append (end x) xs mid ys to l.4 m)

  pub Lie-split : (from : ℕ) (xs ys : List A) (to : ℕ) → Lie source start end from (xs ++ ys) to
      → (mid : ℕ) × Lie source start end from xs mid × Lie source start end mid ys to
  Lie-split from [] ys to l = (from, omega arith, l)
  Lie-split from (x ∷ xs) ys to l = let rest = Lie-split (end x) xs ys to l.4 in (rest.0, (l.0, l.1, l.2, l.3, rest.1), rest.2)

  pub Lie-rest : (from : ℕ) (x : A) (xs : List A) (to : ℕ) → Lie source start end from (x ∷ xs) to → Lie source start end from xs to
  Lie-rest from x xs to l = Lie-wider from (end x) xs to to (omega (arith, l.0, l.1)) (omega arith) l.4

  pub Lie-take : (n : ℕ) (from : ℕ) (xs : List A) (to : ℕ) → Lie source start end from xs to → Lie source start end from (take n xs) to
  Lie-take zero from xs to l = Lie-order from xs to l
  Lie-take (suc n) from [] to l = l
  Lie-take (suc n) from (x ∷ xs) to l = (l.0, l.1, l.2, l.3, Lie-take n (end x) xs to l.4)

  pub Lie-drop : (n : ℕ) (from : ℕ) (xs : List A) (to : ℕ) → Lie source start end from xs to → Lie source start end from (drop n xs) to
  Lie-drop zero from xs to l = l
  Lie-drop (suc n) from [] to l = l
  Lie-drop (suc n) from (x ∷ xs) to l = Lie-drop n from xs to (Lie-rest from x xs to l)

  pub Lie-filter : (keeps : A → Bool) (from : ℕ) (xs : List A) (to : ℕ) → Lie source start end from xs to → Lie source start end from (filter keeps xs) to
  Lie-filter keeps from [] to l = l
  Lie-filter keeps from (x ∷ xs) to l =
      let P : List A → Type 0 = λ ys. Lie source start end from ys to in
      elim (cases_Bool (keeps x)) [
        | inl kept ↦ subst P (sym (cond-true (keeps x) (x ∷ filter keeps xs) (filter keeps xs) kept)) (l.0, l.1, l.2, l.3, Lie-filter keeps (end x) xs to l.4)
        | inr left_out ↦ subst P (sym (cond-false (keeps x) (x ∷ filter keeps xs) (filter keeps xs) left_out))
            (Lie-filter keeps from xs to (Lie-rest from x xs to l))
      ]
