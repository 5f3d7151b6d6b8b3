-- The words of repetitions.
use Rattle.std.proofs.Common.{◌≡◌, ℕ, zero, suc, ◌+◌, ◌-◌, ◌≤◌, [], ◌∷◌, ◌++◌, replicate, inl, inr, Option, Some, None, refl, sym, ap, ◌∙◌, arith, append_assoc}
use Rattle.lic_words.specs.Words.{Word, Cat, Power}
use Rattle.lic_words.specs.Expressions.{IsAtMost}
use Rattle.lic_marks.specs.Cores.{Core, empty, cat, alt, WordsOf, cat_all, any_prefix, copies, up_to, plus}
use Rattle.lic_marks.proofs.Repetitions.{Power-map, Power-append}
use Rattle.lic_auto.specs.Compiling.{AreSame, Repeats}
use Rattle.lic_auto.proofs.WordSets.{AreSame-refl, AreSame-sym, AreSame-trans, IsEmpty, IsNone, Either, Cat-same, Cat-empty_left, Cat-empty_right}

pub Repeats-same : {P Q : Word → Type 0} → AreSame P Q → (min : ℕ) (max : Option ℕ) → AreSame (Repeats P min max) (Repeats Q min max)
Repeats-same {P = P} {Q = Q} s min max = record {
  to = λ w (k, l, m, p). (k, l, m, Power-map P Q s.to k w p);
  from = λ w (k, l, m, p). (k, l, m, Power-map Q P s.from k w p);
}

Power-split : (P : Word → Type 0) (m n : ℕ) (w : Word) → Power P (m + n) w → Cat (Power P m) (Power P n) w
Power-split P zero n w h =
    let e : 0 + n ≡ n = omega arith in ([], w, refl, rw e at h, refl)
Power-split P (suc m) n w h =
    let s : suc m + n ≡ suc (m + n) = omega arith in
    let parts : Cat P (Power P (m + n)) w = rw s at h in
    let rest = Power-split P m n parts.1 parts.3 in (
      parts.0 ++ rest.0,
      rest.1,
      (parts.0, rest.0, parts.2, rest.2, refl),
      rest.3,
      parts.4 ∙ ap (λ x. parts.0 ++ x) rest.4 ∙ sym (append_assoc parts.0 rest.0 rest.1),
    )

module _ (a : Core) where
  copies_to : (n : ℕ) (w : Word) → WordsOf (copies n a) w → Power (WordsOf a) n w
  copies_to zero w h = h
  copies_to (suc n) w (u, v, p, q, e) = (u, v, p, copies_to n v q, e)

  copies_from : (n : ℕ) (w : Word) → Power (WordsOf a) n w → WordsOf (copies n a) w
  copies_from zero w h = h
  copies_from (suc n) w (u, v, p, q, e) = (u, v, p, copies_from n v q, e)

  up_to_to : (n : ℕ) (w : Word) → WordsOf (up_to n a) w → (k : ℕ) × (k ≤ n) × Power (WordsOf a) k w
  up_to_to zero w h = (0, omega arith, h)
  up_to_to (suc n) w (inl h) = (0, omega arith, h)
  up_to_to (suc n) w (inr (u, v, p, q, e)) =
      let rest = up_to_to n v q in (suc rest.0, omega (arith, rest.1), (u, v, p, rest.2, e))

  up_to_from : (n k : ℕ) (w : Word) → k ≤ n → Power (WordsOf a) k w → WordsOf (up_to n a) w
  up_to_from zero zero w h p = p
  up_to_from zero (suc k) w h p = absurd (omega arith)
  up_to_from (suc n) zero w h p = inl p
  up_to_from (suc n) (suc k) w h (u, v, p, q, e) = inr (u, v, p, up_to_from n k v (omega arith) q, e)

  -- m copies, and then up to that many more
  pub bounded_words : (min max : ℕ) → min ≤ max →
      AreSame (Cat (WordsOf (copies min a)) (WordsOf (up_to (max - min) a))) (Repeats (WordsOf a) min (Some max))
  bounded_words min max l = record {
    to = λ w (u, v, p, q, e).
        let rest = up_to_to (max - min) v q in
        let few : rest.0 ≤ max - min = rest.1 in
        (min + rest.0, omega arith, omega (arith, few), rw e (Power-append (WordsOf a) min rest.0 u v (copies_to min u p) rest.2));
    from = λ w (k, m, n, p).
        let e : k ≡ min + (k - min) = omega arith in
        let parts = Power-split (WordsOf a) min (k - min) w (rw e at p) in
        (parts.0, parts.1, copies_from min parts.0 parts.2, up_to_from (max - min) (k - min) parts.1 (omega arith) parts.3, parts.4);
  }

  -- m copies, and then one more or any number
  pub unbounded_words : (min : ℕ) → 1 ≤ min →
      AreSame (Cat (WordsOf (copies (min - 1) a)) (WordsOf (plus a))) (Repeats (WordsOf a) min None)
  unbounded_words min l = record {
    to = λ w (u, v, p, (x, y, q, (n, r), f), e).
        ((min - 1) + suc n, omega arith, tt, rw e (Power-append (WordsOf a) (min - 1) (suc n) u v (copies_to (min - 1) u p) (x, y, q, r, f)));
    from = λ w (k, m, t, p).
        let e : k ≡ (min - 1) + suc (k - min) = omega arith in
        let parts = Power-split (WordsOf a) (min - 1) (suc (k - min)) w (rw e at p) in
        (parts.0, parts.1, copies_from (min - 1) parts.0 parts.2, (parts.3.0, parts.3.1, parts.3.2, (k - min, parts.3.3), parts.3.4), parts.4);
  }

  pub plus_words : AreSame (WordsOf (plus a)) (Repeats (WordsOf a) 1 None)
  plus_words = AreSame-trans (AreSame-sym (Cat-empty_left (WordsOf (plus a)))) (unbounded_words 1 (omega arith))

  star_to : (w : Word) → Either IsEmpty (WordsOf (plus a)) w → Repeats (WordsOf a) 0 None w
  star_to w (inl h) = (0, omega arith, tt, h)
  star_to w (inr (x, y, q, (n, r), f)) = (suc n, omega arith, tt, (x, y, q, r, f))

  star_from : (w : Word) → Repeats (WordsOf a) 0 None w → Either IsEmpty (WordsOf (plus a)) w
  star_from w (zero, l, t, p) = inl p
  star_from w (suc k, l, t, (x, y, q, r, f)) = inr (x, y, q, (k, r), f)

  pub star_words : AreSame (Either IsEmpty (WordsOf (plus a))) (Repeats (WordsOf a) 0 None)
  star_words = record { to = star_to; from = star_from }

module _ (P : Word → Type 0) (min : ℕ) (max : Option ℕ) (some : IsAtMost max min) where
  powers_from : ((w : Word) → P w → w ≡ []) → (k : ℕ) (w : Word) → Power P k w → w ≡ []
  powers_from h zero w p = p
  powers_from h (suc k) w (u, v, p, q, e) = e ∙ ap (λ x. x ++ v) (h u p) ∙ powers_from h k v q

  powers_of_empty : P [] → (k : ℕ) → Power P k []
  powers_of_empty p zero = refl
  powers_of_empty p (suc k) = ([], [], p, powers_of_empty p k, refl)

  -- the empty word alone that many times
  pub Repeats-empty : AreSame P IsEmpty → AreSame IsEmpty (Repeats P min max)
  Repeats-empty s = record {
    to = λ w e. (min, omega arith, some, rw e (powers_of_empty (s.from [] refl) min));
    from = λ w (k, l, m, p). powers_from s.to k w p;
  }

  none_of : (s : AreSame P IsNone) (k : ℕ) (w : Word) → 1 ≤ k → Power P k w → ⊥
  none_of s zero w l p = omega arith
  none_of s (suc k) w l (u, v, p, q, e) = s.to u p

  -- a word of no words at least once
  pub Repeats-none : 1 ≤ min → AreSame P IsNone → AreSame IsNone (Repeats P min max)
  Repeats-none l s = record {
    to = λ w h. absurd h;
    from = λ w (k, m, n, p). none_of s k w (omega (arith, l, m)) p;
  }

-- at most the empty word, any number of times, may be left out
pub Repeats-left_out : (P : Word → Type 0) → ((w : Word) → P w → w ≡ []) → (max : Option ℕ) → IsAtMost max 0 → AreSame IsEmpty (Repeats P 0 max)
Repeats-left_out P h max some = record {
  to = λ w e. (0, omega arith, some, e);
  from = λ w (k, l, m, p). powers_from P 0 max some h k w p;
}

-- sequences of copied bodies
pub copies-list : (n : ℕ) (a : Core) → cat_all (replicate n a) ≡ copies n a
copies-list zero a = refl
copies-list (suc n) a = ap (cat a) (copies-list n a)

pub up_to-list : (n : ℕ) (a : Core) → any_prefix (replicate n a) ≡ up_to n a
up_to-list zero a = refl
up_to-list (suc n) a = ap (λ r. alt empty (cat a r)) (up_to-list n a)

pub bounded_sequence : (a c d : Core) (min max : ℕ) → min ≤ max → c ≡ copies min a → d ≡ up_to (max - min) a →
    AreSame (WordsOf (cat_all (c ∷ d ∷ []))) (Repeats (WordsOf a) min (Some max))
bounded_sequence a c d min max l e f =
    rw (e, f) (AreSame-trans (Cat-same (AreSame-refl (WordsOf (copies min a))) (Cat-empty_right (WordsOf (up_to (max - min) a)))) (bounded_words a min max l))

pub unbounded_sequence : (a c d : Core) (min : ℕ) → 1 ≤ min → c ≡ copies (min - 1) a → d ≡ plus a →
    AreSame (WordsOf (cat_all (c ∷ d ∷ []))) (Repeats (WordsOf a) min None)
unbounded_sequence a c d min l e f =
    rw (e, f) (AreSame-trans (Cat-same (AreSame-refl (WordsOf (copies (min - 1) a))) (Cat-empty_right (WordsOf (plus a)))) (unbounded_words a min l))

pub star_sequence : (a d : Core) → d ≡ plus a → AreSame (WordsOf (alt empty d)) (Repeats (WordsOf a) 0 None)
star_sequence a d e = rw e (star_words a)
