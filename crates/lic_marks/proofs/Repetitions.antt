-- The expression with its repetitions written out denotes the same words.
use Rattle.std.proofs.Common.{◌≡◌, ℕ, zero, suc, ◌+◌, ◌-◌, ◌≤◌, [], ◌++◌, inl, inr, Option, Some, None, refl, sym, ap, ◌∙◌, arith, append_assoc, sub-one, ◌≢◌, ◌<◌, ne_eqb, lt-ltb, le-ltb, if◌then◌else◌}
use Rattle.std.proofs.lemmas.Bool.{cases_lt}
use Rattle.lic_words.specs.Words.{Word, Cat, Power}
use Rattle.lic_words.specs.Expressions.{Expression, Language, IsAtMost}
use Rattle.lic_marks.specs.Cores.{Core, empty, cat, none, alt, plus, WordsOf, core, copies, up_to, repeat}
use Rattle.lic_words.specs.Expressions as expressions

-- the cases of a repetition
repeat_some : (min : ℕ) (a : Core) → min ≢ 0 → repeat min None a ≡ cat (copies (min - 1) a) (plus a)
repeat_some min a h = ap (λ b. if b then alt empty (plus a) else cat (copies (min - 1) a) (plus a)) (ne_eqb min 0 h)

repeat_never : (min max : ℕ) (a : Core) → max < min → repeat min (Some max) a ≡ none
repeat_never min max a h = ap (λ b. if b then none else cat (copies min a) (up_to (max - min) a)) (lt-ltb max min h)

repeat_within : (min max : ℕ) (a : Core) → min ≤ max → repeat min (Some max) a ≡ cat (copies min a) (up_to (max - min) a)
repeat_within min max a h = ap (λ b. if b then none else cat (copies min a) (up_to (max - min) a)) (le-ltb max min h)

pub Power-map : (P Q : Word → Type 0) → ((w : Word) → P w → Q w) → (n : ℕ) (w : Word) → Power P n w → Power Q n w
Power-map P Q f zero w h = h
Power-map P Q f (suc n) w (u, v, p, q, e) = (u, v, f u p, Power-map P Q f n v q, e)

pub Power-append : (P : Word → Type 0) (m n : ℕ) (u v : Word) → Power P m u → Power P n v → Power P (m + n) (u ++ v)
Power-append P zero n u v p q =
    let e : 0 + n ≡ n = omega arith in
    let s : u ++ v ≡ v = ap (λ x. x ++ v) p in
    rw (e, s) q
Power-append P (suc m) n u v (a, b, p, r, e) q =
    let s : suc m + n ≡ suc (m + n) = omega arith in
    rw s (a, b ++ v, p, Power-append P m n b v r q, ap (λ x. x ++ v) e ∙ append_assoc a b v)

Power-split : (P : Word → Type 0) (m n : ℕ) (w : Word) → Power P (m + n) w → Cat (Power P m) (Power P n) w
Power-split P zero n w h =
    let e : 0 + n ≡ n = omega arith in ([], w, refl, rw e at h, refl)
Power-split P (suc m) n w h =
    let s : suc m + n ≡ suc (m + n) = omega arith in
    let parts : Cat P (Power P (m + n)) w = rw s at h in
    let rest = Power-split P m n parts.1 parts.3 in (
      parts.0 ++ rest.0,
      rest.1,
      (parts.0, rest.0, parts.2, rest.2, refl),
      rest.3,
      parts.4 ∙ ap (λ x. parts.0 ++ x) rest.4 ∙ sym (append_assoc parts.0 rest.0 rest.1),
    )

module _ (a : Core) where
  copies_sound : (n : ℕ) (w : Word) → WordsOf (copies n a) w → Power (WordsOf a) n w
  copies_sound zero w h = h
  copies_sound (suc n) w (u, v, p, q, e) = (u, v, p, copies_sound n v q, e)

  copies_complete : (n : ℕ) (w : Word) → Power (WordsOf a) n w → WordsOf (copies n a) w
  copies_complete zero w h = h
  copies_complete (suc n) w (u, v, p, q, e) = (u, v, p, copies_complete n v q, e)

  up_to_sound : (n : ℕ) (w : Word) → WordsOf (up_to n a) w → (k : ℕ) × (k ≤ n) × Power (WordsOf a) k w
  up_to_sound zero w h = (0, omega arith, h)
  up_to_sound (suc n) w (inl h) = (0, omega arith, h)
  up_to_sound (suc n) w (inr (u, v, p, q, e)) =
      let rest = up_to_sound n v q in (suc rest.0, omega (arith, rest.1), (u, v, p, rest.2, e))

  up_to_complete : (n k : ℕ) (w : Word) → k ≤ n → Power (WordsOf a) k w → WordsOf (up_to n a) w
  up_to_complete zero zero w h p = p
  up_to_complete zero (suc k) w h p = absurd (omega arith)
  up_to_complete (suc n) zero w h p = inl p
  up_to_complete (suc n) (suc k) w h (u, v, p, q, e) = inr (u, v, p, up_to_complete n k v (omega arith) q, e)

  -- how many words of the body a repetition may take
  abbrev Count : ℕ → Option ℕ → Word → Type 0
  Count min max w = (k : ℕ) × (min ≤ k) × IsAtMost max k × Power (WordsOf a) k w

  some_sound : (min : ℕ) (w : Word) → WordsOf (cat (copies min a) (plus a)) w → Count (suc min) None w
  some_sound min w (u, v, p, (x, y, q, (n, r), f), e) =
      (min + suc n, omega arith, tt, rw e (Power-append (WordsOf a) min (suc n) u v (copies_sound min u p) (x, y, q, r, f)))

  some_complete : (min : ℕ) (w : Word) → Count (suc min) None w → WordsOf (cat (copies min a) (plus a)) w
  some_complete min w (k, l, m, p) =
      let e : k ≡ min + suc (k - suc min) = omega arith in
      let parts = Power-split (WordsOf a) min (suc (k - suc min)) w (rw e at p) in
      (parts.0, parts.1, copies_complete min parts.0 parts.2, (parts.3.0, parts.3.1, parts.3.2, (k - suc min, parts.3.3), parts.3.4), parts.4)

  within_sound : (min max : ℕ) → min ≤ max → (w : Word) → WordsOf (cat (copies min a) (up_to (max - min) a)) w → Count min (Some max) w
  within_sound min max l w (u, v, p, q, e) =
      let rest = up_to_sound (max - min) v q in
      let few : rest.0 ≤ max - min = rest.1 in
      (min + rest.0, omega arith, omega (arith, few), rw e (Power-append (WordsOf a) min rest.0 u v (copies_sound min u p) rest.2))

  within_complete : (min max : ℕ) → min ≤ max → (w : Word) → Count min (Some max) w → WordsOf (cat (copies min a) (up_to (max - min) a)) w
  within_complete min max l w (k, m, n, p) =
      let e : k ≡ min + (k - min) = omega arith in
      let parts = Power-split (WordsOf a) min (k - min) w (rw e at p) in
      (parts.0, parts.1, copies_complete min parts.0 parts.2, up_to_complete (max - min) (k - min) parts.1 (omega arith) parts.3, parts.4)

  repeat_sound : (min : ℕ) (max : Option ℕ) (w : Word) → WordsOf (repeat min max a) w → Count min max w
  repeat_sound zero None w (inl h) = (0, omega arith, tt, h)
  repeat_sound zero None w (inr (x, y, q, (n, r), f)) = (suc n, omega arith, tt, (x, y, q, r, f))
  repeat_sound (suc min) None w h =
      some_sound min w (rw (repeat_some (suc min) a (λ e. cc), sub-one) at h)
  repeat_sound min (Some max) w h = elim (cases_lt max min) [
    | inl l ↦ absurd (let h' = rw (repeat_never min max a l) at h in h')
    | inr l ↦ within_sound min max l w (rw (repeat_within min max a l) at h)
  ]

  repeat_complete : (min : ℕ) (max : Option ℕ) (w : Word) → Count min max w → WordsOf (repeat min max a) w
  repeat_complete zero None w (zero, l, m, p) = inl p
  repeat_complete zero None w (suc k, l, m, (x, y, q, r, f)) = inr (x, y, q, (k, r), f)
  repeat_complete (suc min) None w h = rw (repeat_some (suc min) a (λ e. cc), sub-one) (some_complete min w h)
  repeat_complete min (Some max) w (k, m, n, p) = elim (cases_lt max min) [
    | inl l ↦ absurd (omega arith)
    | inr l ↦ rw (repeat_within min max a l) (within_complete min max l w (k, m, n, p))
  ]

pub core_sound : (r : Expression) (w : Word) → WordsOf (core r) w → Language r w
core_sound expressions.empty w h = h
core_sound (expressions.one passes) w h = h
core_sound (expressions.cat a b) w (u, v, p, q, e) = (u, v, core_sound a u p, core_sound b v q, e)
core_sound expressions.none w h = h
core_sound (expressions.alt a b) w (inl h) = inl (core_sound a w h)
core_sound (expressions.alt a b) w (inr h) = inr (core_sound b w h)
core_sound (expressions.repeat min max a) w h =
    let (k, l, m, p) = repeat_sound (core a) min max w h in
    (k, l, m, Power-map (WordsOf (core a)) (Language a) (core_sound a) k w p)
core_sound (expressions.tidy a) w h = (core_sound a w h.0, h.1)

pub core_complete : (r : Expression) (w : Word) → Language r w → WordsOf (core r) w
core_complete expressions.empty w h = h
core_complete (expressions.one passes) w h = h
core_complete (expressions.cat a b) w (u, v, p, q, e) = (u, v, core_complete a u p, core_complete b v q, e)
core_complete expressions.none w h = h
core_complete (expressions.alt a b) w (inl h) = inl (core_complete a w h)
core_complete (expressions.alt a b) w (inr h) = inr (core_complete b w h)
core_complete (expressions.repeat min max a) w (k, l, m, p) =
    repeat_complete (core a) min max w (k, l, m, Power-map (Language a) (WordsOf (core a)) (core_complete a) k w p)
core_complete (expressions.tidy a) w h = (core_complete a w h.0, h.1)
