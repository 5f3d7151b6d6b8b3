-- The marks after a letter say what may follow it.
use Rattle.std.proofs.Common.{◌≡◌, ℕ, suc, Bool, true, false, ◌==◌, ◌&&◌, ◌||◌, [], ◌∷◌, ◌⊎◌, inl, inr, refl, sym, ap, ◌∙◌, subst, if◌then◌else◌}
use Rattle.lic_words.specs.Words.{Word, Cat, blank}
use Rattle.lic_marks.specs.Cores.{Core, empty, one, cat, none, alt, plus, tidy, Star, WordsOf}
use Rattle.lic_marks.specs.Marks.{Marks, no_marks, is_nullable, can_leave, shift}
use Rattle.lic_marks.specs.Continuations.{IsTidyAfter, Completes, Continues}
use Rattle.lic_marks.proofs.Cuts.{or_cases, or_left, or_right, and_left, and_right, and_both, cat_nil_left, cat_nil_right, nil_cat, cat_cons, power_cons}
use Rattle.lic_marks.proofs.TidyLetters.{tidy_nil, tidy_cons, tidy_first, tidy_rest}

star_nil : (P : Word → Type 0) → Star P []
star_nil P = (0, refl)

star_more : (P : Word → Type 0) (w : Word) → Cat P (Star P) w → Star P w
star_more P w (u, v, p, (n, q), e) = (suc n, (u, v, p, q, e))

star_cons : (P : Word → Type 0) (c : ℕ) (w : Word) → Star P (c ∷ w) → Cat (λ u. P (c ∷ u)) (Star P) w
star_cons P c w (n, h) = power_cons P n c w h

pub is_nullable_sound : (r : Core) → is_nullable r ≡ true → WordsOf r []
is_nullable_sound empty h = refl
is_nullable_sound (one passes) h = cc
is_nullable_sound (cat a b) h =
    nil_cat (WordsOf a) (WordsOf b) [] (is_nullable_sound a (and_left (is_nullable a) (is_nullable b) h))
    (is_nullable_sound b (and_right (is_nullable a) (is_nullable b) h))
is_nullable_sound none h = cc
is_nullable_sound (alt a b) h =
    elim (or_cases (is_nullable a) (is_nullable b) h) [ inl p ↦ inl (is_nullable_sound a p) | inr p ↦ inr (is_nullable_sound b p) ]
is_nullable_sound (plus a) h = nil_cat (WordsOf a) (Star (WordsOf a)) [] (is_nullable_sound a h) (star_nil (WordsOf a))
is_nullable_sound (tidy a) h = (is_nullable_sound a h, tidy_nil)

pub is_nullable_complete : (r : Core) → WordsOf r [] → is_nullable r ≡ true
is_nullable_complete empty h = refl
is_nullable_complete (one passes) h = cc
is_nullable_complete (cat a b) h =
    and_both (is_nullable a) (is_nullable b) (is_nullable_complete a (cat_nil_left (WordsOf a) (WordsOf b) h))
    (is_nullable_complete b (cat_nil_right (WordsOf a) (WordsOf b) h))
is_nullable_complete none h = absurd h
is_nullable_complete (alt a b) (inl h) = or_left (is_nullable a) (is_nullable b) (is_nullable_complete a h)
is_nullable_complete (alt a b) (inr h) = or_right (is_nullable a) (is_nullable b) (is_nullable_complete b h)
is_nullable_complete (plus a) h = is_nullable_complete a (cat_nil_left (WordsOf a) (Star (WordsOf a)) h)
is_nullable_complete (tidy a) h = is_nullable_complete a h.0

-- where nothing is marked, nothing completes a word
pub Completes-no_marks : (r : Core) (after : Bool) (v : Word) → Completes r after (no_marks r) v → ⊥
Completes-no_marks empty after v h = h
Completes-no_marks (one passes) after v h = cc
Completes-no_marks (cat a b) after v (inl h) = Completes-no_marks a after h.0 h.2
Completes-no_marks (cat a b) after v (inr h) = Completes-no_marks b after v h
Completes-no_marks none after v h = h
Completes-no_marks (alt a b) after v (inl h) = Completes-no_marks a after v h
Completes-no_marks (alt a b) after v (inr h) = Completes-no_marks b after v h
Completes-no_marks (plus a) after v h = Completes-no_marks a after h.0 h.2
Completes-no_marks (tidy a) after v h = Completes-no_marks a after v h.0

-- the empty word may follow
abbrev pub Done : (r : Core) → Bool → Bool → Marks r → Type 0
Done r after entry m = Completes r after m [] ⊎ ((entry ≡ true) × WordsOf r [])

pub can_leave_sound : (r : Core) (after entry : Bool) (m : Marks r) → can_leave r after entry m ≡ true → Done r after entry m
can_leave_sound empty after entry m h = inr (h, refl)
can_leave_sound (one passes) after entry m h = inl (h, refl)
can_leave_sound (cat a b) after entry m h =
    elim (can_leave_sound b after (can_leave a after entry m.0) m.1 h) [
      | inl p ↦ inl (inr p)
      | inr p ↦ elim (can_leave_sound a after entry m.0 p.0) [
        | inl q ↦ inl (inl (nil_cat (Completes a after m.0) (WordsOf b) [] q p.1))
        | inr q ↦ inr (q.0, nil_cat (WordsOf a) (WordsOf b) [] q.1 p.1)
      ]
    ]
can_leave_sound none after entry m h = cc
can_leave_sound (alt a b) after entry m h =
    elim (or_cases (can_leave a after entry m.0) (can_leave b after entry m.1) h) [
      | inl p ↦ elim (can_leave_sound a after entry m.0 p) [ inl q ↦ inl (inl q) | inr q ↦ inr (q.0, inl q.1) ]
      | inr p ↦ elim (can_leave_sound b after entry m.1 p) [ inl q ↦ inl (inr q) | inr q ↦ inr (q.0, inr q.1) ]
    ]
can_leave_sound (plus a) after entry m h =
    elim (can_leave_sound a after entry m h) [
      | inl q ↦ inl (nil_cat (Completes a after m) (Star (WordsOf a)) [] q (star_nil (WordsOf a)))
      | inr q ↦ inr (q.0, nil_cat (WordsOf a) (Star (WordsOf a)) [] q.1 (star_nil (WordsOf a)))
    ]
can_leave_sound (tidy a) true entry m h =
    inr (and_left entry (is_nullable a) h, (is_nullable_sound a (and_right entry (is_nullable a) h), tidy_nil))
can_leave_sound (tidy a) false entry m h =
    elim (can_leave_sound a false entry m h) [ inl q ↦ inl (q, refl) | inr q ↦ inr (q.0, (q.1, tidy_nil)) ]

pub can_leave_complete : (r : Core) (after entry : Bool) (m : Marks r) → Done r after entry m → can_leave r after entry m ≡ true
can_leave_complete empty after entry m (inl h) = absurd h
can_leave_complete empty after entry m (inr h) = h.0
can_leave_complete (one passes) after entry m (inl h) = h.0
can_leave_complete (one passes) after entry m (inr h) = cc
can_leave_complete (cat a b) after entry m (inl (inl h)) =
    can_leave_complete b after (can_leave a after entry m.0) m.1
    (inr (can_leave_complete a after entry m.0 (inl (cat_nil_left (Completes a after m.0) (WordsOf b) h)), cat_nil_right (Completes a after m.0) (WordsOf b) h))
can_leave_complete (cat a b) after entry m (inl (inr h)) = can_leave_complete b after (can_leave a after entry m.0) m.1 (inl h)
can_leave_complete (cat a b) after entry m (inr h) =
    can_leave_complete b after (can_leave a after entry m.0) m.1
    (inr (can_leave_complete a after entry m.0 (inr (h.0, cat_nil_left (WordsOf a) (WordsOf b) h.1)), cat_nil_right (WordsOf a) (WordsOf b) h.1))
can_leave_complete none after entry m (inl h) = absurd h
can_leave_complete none after entry m (inr h) = absurd h.1
can_leave_complete (alt a b) after entry m (inl (inl h)) =
    or_left (can_leave a after entry m.0) (can_leave b after entry m.1) (can_leave_complete a after entry m.0 (inl h))
can_leave_complete (alt a b) after entry m (inl (inr h)) =
    or_right (can_leave a after entry m.0) (can_leave b after entry m.1) (can_leave_complete b after entry m.1 (inl h))
can_leave_complete (alt a b) after entry m (inr (e, inl h)) =
    or_left (can_leave a after entry m.0) (can_leave b after entry m.1) (can_leave_complete a after entry m.0 (inr (e, h)))
can_leave_complete (alt a b) after entry m (inr (e, inr h)) =
    or_right (can_leave a after entry m.0) (can_leave b after entry m.1) (can_leave_complete b after entry m.1 (inr (e, h)))
can_leave_complete (plus a) after entry m (inl h) = can_leave_complete a after entry m (inl (cat_nil_left (Completes a after m) (Star (WordsOf a)) h))
can_leave_complete (plus a) after entry m (inr h) =
    can_leave_complete a after entry m (inr (h.0, cat_nil_left (WordsOf a) (Star (WordsOf a)) h.1))
can_leave_complete (tidy a) true entry m (inl h) = cc
can_leave_complete (tidy a) true entry m (inr h) = and_both entry (is_nullable a) h.0 (is_nullable_complete a h.1.0)
can_leave_complete (tidy a) false entry m (inl h) = can_leave_complete a false entry m (inl h.0)
can_leave_complete (tidy a) false entry m (inr h) = can_leave_complete a false entry m (inr (h.0, h.1.0))

and_false : (a b : Bool) → b ≡ false → (a && b) ≡ false
and_false true b h = h
and_false false b h = refl

-- the step at a tidy part, where `b` says whether the letter is a blank
module _ (a : Core) (entry : Bool) (c : ℕ) (v : Word) where
  abbrev tidy_shift : (after b : Bool) → Marks a → Marks a
  tidy_shift after b m = if b then (if after then no_marks a else shift a after false m c) else shift a after entry m c

  tidy_sound : (after : Bool) (m : Marks a) (b : Bool) → (c == blank) ≡ b →
      ((e : Bool) → Completes a b (shift a after e m c) v → Continues a after e m (c ∷ v)) →
      Completes a b (tidy_shift after b m) v → IsTidyAfter b v → Continues (tidy a) after entry m (c ∷ v)
  tidy_sound true m true is ih h t = absurd (Completes-no_marks a true v h)
  tidy_sound false m true is ih h t =
      elim (ih false h) [ inl s ↦ inl (s, (refl, subst (λ x. IsTidyAfter x v) (sym is) t)) | inr s ↦ absurd (let e = s.0 in cc) ]
  tidy_sound after m false is ih h t =
      let t' : IsTidyAfter (c == blank) v = subst (λ x. IsTidyAfter x v) (sym is) t in
      elim (ih entry h) [
        | inl s ↦ inl (s, (and_false after (c == blank) is, t'))
        | inr s ↦ inr (s.0, (s.1, tidy_cons c v is t'))
      ]

  tidy_complete : (after : Bool) (m : Marks a) (b : Bool) → (c == blank) ≡ b →
      ((e : Bool) → Continues a after e m (c ∷ v) → Completes a b (shift a after e m c) v) →
      Continues (tidy a) after entry m (c ∷ v) → Completes a b (tidy_shift after b m) v × IsTidyAfter b v
  tidy_complete true m true is ih (inl h) = absurd (let g = h.1.0 in cc)
  tidy_complete false m true is ih (inl h) = (ih false (inl h.0), subst (λ x. IsTidyAfter x v) is h.1.1)
  tidy_complete after m true is ih (inr h) = absurd (let g = tidy_first c v h.1.1 in cc)
  tidy_complete after m false is ih (inl h) = (ih entry (inl h.0), subst (λ x. IsTidyAfter x v) is h.1.1)
  tidy_complete after m false is ih (inr h) =
      (ih entry (inr (h.0, h.1.0)), subst (λ x. IsTidyAfter x v) is (tidy_rest c v h.1.1))

pub shift_sound : (r : Core) (after entry : Bool) (m : Marks r) (c : ℕ) (v : Word) →
    Completes r (c == blank) (shift r after entry m c) v → Continues r after entry m (c ∷ v)
shift_sound empty after entry m c v h = absurd h
shift_sound (one passes) after entry m c v h =
    inr (and_left entry (passes c) h.0, (c, and_right entry (passes c) h.0, ap (λ x. c ∷ x) h.1))
shift_sound (cat a b) after entry m c v (inl (u, w, p, q, e)) =
    elim (shift_sound a after entry m.0 c u p) [
      | inl s ↦ inl (inl (c ∷ u, w, s, q, ap (λ x. c ∷ x) e))
      | inr s ↦ inr (s.0, (c ∷ u, w, s.1, q, ap (λ x. c ∷ x) e))
    ]
shift_sound (cat a b) after entry m c v (inr h) =
    elim (shift_sound b after (can_leave a after entry m.0) m.1 c v h) [
      | inl s ↦ inl (inr s)
      | inr s ↦ elim (can_leave_sound a after entry m.0 s.0) [
        | inl q ↦ inl (inl (nil_cat (Completes a after m.0) (WordsOf b) (c ∷ v) q s.1))
        | inr q ↦ inr (q.0, nil_cat (WordsOf a) (WordsOf b) (c ∷ v) q.1 s.1)
      ]
    ]
shift_sound none after entry m c v h = absurd h
shift_sound (alt a b) after entry m c v (inl h) =
    elim (shift_sound a after entry m.0 c v h) [ inl s ↦ inl (inl s) | inr s ↦ inr (s.0, inl s.1) ]
shift_sound (alt a b) after entry m c v (inr h) =
    elim (shift_sound b after entry m.1 c v h) [ inl s ↦ inl (inr s) | inr s ↦ inr (s.0, inr s.1) ]
shift_sound (plus a) after entry m c v (u, w, p, q, e) =
    elim (shift_sound a after (entry || can_leave a after entry m) m c u p) [
      | inl s ↦ inl (c ∷ u, w, s, q, ap (λ x. c ∷ x) e)
      | inr s ↦ elim (or_cases entry (can_leave a after entry m) s.0) [
        | inl t ↦ inr (t, (c ∷ u, w, s.1, q, ap (λ x. c ∷ x) e))
        | inr t ↦
            let more : Star (WordsOf a) (c ∷ v) = star_more (WordsOf a) (c ∷ v) (c ∷ u, w, s.1, q, ap (λ x. c ∷ x) e) in
            elim (can_leave_sound a after entry m t) [
              | inl x ↦ inl (nil_cat (Completes a after m) (Star (WordsOf a)) (c ∷ v) x more)
              | inr x ↦ inr (x.0, nil_cat (WordsOf a) (Star (WordsOf a)) (c ∷ v) x.1 more)
            ]
      ]
    ]
shift_sound (tidy a) after entry m c v h =
    tidy_sound a entry c v after m (c == blank) refl (λ e. shift_sound a after e m c v) h.0 h.1

pub shift_complete : (r : Core) (after entry : Bool) (m : Marks r) (c : ℕ) (v : Word) →
    Continues r after entry m (c ∷ v) → Completes r (c == blank) (shift r after entry m c) v
shift_complete empty after entry m c v (inl h) = absurd h
shift_complete empty after entry m c v (inr h) = absurd (let e = h.1 in cc)
shift_complete (one passes) after entry m c v (inl h) = absurd (let e = h.1 in cc)
shift_complete (one passes) after entry m c v (inr (t, (d, p, e))) =
    let same : d ≡ c = cc in
    let rest : v ≡ [] = cc in
    (and_both entry (passes c) t (subst (λ x. passes x ≡ true) same p), rest)
shift_complete (cat a b) after entry m c v (inl (inl h)) =
    elim (cat_cons (Completes a after m.0) (WordsOf b) c v h) [
      | inl s ↦ inr (shift_complete b after (can_leave a after entry m.0) m.1 c v (inr (can_leave_complete a after entry m.0 (inl s.0), s.1)))
      | inr s ↦ inl (s.0, s.1, shift_complete a after entry m.0 c s.0 (inl s.2), s.3, s.4)
    ]
shift_complete (cat a b) after entry m c v (inl (inr h)) = inr (shift_complete b after (can_leave a after entry m.0) m.1 c v (inl h))
shift_complete (cat a b) after entry m c v (inr h) =
    elim (cat_cons (WordsOf a) (WordsOf b) c v h.1) [
      | inl s ↦ inr (shift_complete b after (can_leave a after entry m.0) m.1 c v (inr (can_leave_complete a after entry m.0 (inr (h.0, s.0)), s.1)))
      | inr s ↦ inl (s.0, s.1, shift_complete a after entry m.0 c s.0 (inr (h.0, s.2)), s.3, s.4)
    ]
shift_complete none after entry m c v (inl h) = absurd h
shift_complete none after entry m c v (inr h) = absurd h.1
shift_complete (alt a b) after entry m c v (inl (inl h)) = inl (shift_complete a after entry m.0 c v (inl h))
shift_complete (alt a b) after entry m c v (inl (inr h)) = inr (shift_complete b after entry m.1 c v (inl h))
shift_complete (alt a b) after entry m c v (inr (t, inl h)) = inl (shift_complete a after entry m.0 c v (inr (t, h)))
shift_complete (alt a b) after entry m c v (inr (t, inr h)) = inr (shift_complete b after entry m.1 c v (inr (t, h)))
shift_complete (plus a) after entry m c v (inl h) =
    elim (cat_cons (Completes a after m) (Star (WordsOf a)) c v h) [
      | inl s ↦
          let more : Cat (λ u. WordsOf a (c ∷ u)) (Star (WordsOf a)) v = star_cons (WordsOf a) c v s.1 in
          let enters : (entry || can_leave a after entry m) ≡ true =
          or_right entry (can_leave a after entry m) (can_leave_complete a after entry m (inl s.0)) in
          (more.0, more.1, shift_complete a after (entry || can_leave a after entry m) m c more.0 (inr (enters, more.2)), more.3, more.4)
      | inr s ↦ (s.0, s.1, shift_complete a after (entry || can_leave a after entry m) m c s.0 (inl s.2), s.3, s.4)
    ]
shift_complete (plus a) after entry m c v (inr h) =
    let enters : (entry || can_leave a after entry m) ≡ true = or_left entry (can_leave a after entry m) h.0 in
    elim (cat_cons (WordsOf a) (Star (WordsOf a)) c v h.1) [
      | inl s ↦
          let more : Cat (λ u. WordsOf a (c ∷ u)) (Star (WordsOf a)) v = star_cons (WordsOf a) c v s.1 in
          (more.0, more.1, shift_complete a after (entry || can_leave a after entry m) m c more.0 (inr (enters, more.2)), more.3, more.4)
      | inr s ↦ (s.0, s.1, shift_complete a after (entry || can_leave a after entry m) m c s.0 (inr (enters, s.2)), s.3, s.4)
    ]
shift_complete (tidy a) after entry m c v h =
    tidy_complete a entry c v after m (c == blank) refl (λ e. shift_complete a after e m c v) h

-- at the beginning there is no mark
pub begin_sound : (r : Core) (after : Bool) (v : Word) → Continues r after true (no_marks r) v → WordsOf r v
begin_sound r after v (inl h) = absurd (Completes-no_marks r after v h)
begin_sound r after v (inr h) = h.1

pub begin_complete : (r : Core) (after : Bool) (v : Word) → WordsOf r v → Continues r after true (no_marks r) v
begin_complete r after v h = inr (refl, h)

-- where nothing is marked and one may not begin, one cannot leave
pub can_leave-no_marks : (r : Core) (after : Bool) → can_leave r after false (no_marks r) ≡ false
can_leave-no_marks empty after = refl
can_leave-no_marks (one passes) after = refl
can_leave-no_marks (cat a b) after =
    ap (λ e. can_leave b after e (no_marks b)) (can_leave-no_marks a after) ∙ can_leave-no_marks b after
can_leave-no_marks none after = refl
can_leave-no_marks (alt a b) after =
    ap (λ x. x || can_leave b after false (no_marks b)) (can_leave-no_marks a after) ∙ can_leave-no_marks b after
can_leave-no_marks (plus a) after = can_leave-no_marks a after
can_leave-no_marks (tidy a) true = refl
can_leave-no_marks (tidy a) false = can_leave-no_marks a false

-- and a letter marks nothing
tidy-no_marks : (a : Core) (after b : Bool) (m : Marks a) → m ≡ no_marks a →
    (if b then (if after then no_marks a else m) else m) ≡ no_marks a
tidy-no_marks a true true m h = refl
tidy-no_marks a false true m h = h
tidy-no_marks a after false m h = h

pub shift-no_marks : (r : Core) (after : Bool) (c : ℕ) → shift r after false (no_marks r) c ≡ no_marks r
shift-no_marks empty after c = refl
shift-no_marks (one passes) after c = refl
shift-no_marks (cat a b) after c =
    let left : shift a after false (no_marks a) c ≡ no_marks a = shift-no_marks a after c in
    let right : shift b after (can_leave a after false (no_marks a)) (no_marks b) c ≡ no_marks b =
    ap (λ e. shift b after e (no_marks b) c) (can_leave-no_marks a after) ∙ shift-no_marks b after c in
    λ i. (left i, right i)
shift-no_marks none after c = refl
shift-no_marks (alt a b) after c =
    let left : shift a after false (no_marks a) c ≡ no_marks a = shift-no_marks a after c in
    let right : shift b after false (no_marks b) c ≡ no_marks b = shift-no_marks b after c in
    λ i. (left i, right i)
shift-no_marks (plus a) after c =
    ap (λ e. shift a after e (no_marks a) c) (can_leave-no_marks a after) ∙ shift-no_marks a after c
shift-no_marks (tidy a) after c = tidy-no_marks a after (c == blank) (shift a after false (no_marks a) c) (shift-no_marks a after c)
