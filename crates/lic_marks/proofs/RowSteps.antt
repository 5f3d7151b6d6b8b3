-- What is computed on a row, part by part.
use Rattle.std.proofs.Common.{if◌then◌else◌, ◌≡◌, ℕ, zero, suc, ◌+◌, ◌≤◌, ◌<◌, ◌-◌, Bool, true, false, not, ◌==◌, ◌&&◌, ◌||◌, List, [], ◌∷◌, ◌++◌, length, take, drop, set, get_or, replicate, refl, sym, ap, ◌∙◌, arith, append_assoc, append-nil, length-append, length-drop, add-one}
use Rattle.std.specs.List.{slice_range}
use Rattle.std.proofs.Math.ListN.{replicate-append-replicate}
use Rattle.std.proofs.lemmas.List.Folds.{drop_split}
use Rattle.std.proofs.lemmas.List.{take_at, drop_at, drop-drop, length-take-le, set_split, take-append-drop, drop_more, drop-replicate}
use Rattle.lic_words.specs.Words.{blank}
use Rattle.lic_marks.specs.Cores.{Core, empty, one, cat, none, alt, plus, tidy}
use Rattle.lic_marks.specs.Marks.{Marks, no_marks, is_nullable, shift}
use Rattle.lic_marks.specs.Rows.{weight, flags_of, first_flag, marks_of, Leaves, Shifts}
use Rattle.lic_marks.proofs.Shifting.{can_leave-no_marks, shift-no_marks}

pub length-flags_of : (r : Core) (m : Marks r) → length (flags_of r m) ≡ weight r
length-flags_of empty m = refl
length-flags_of (one passes) m = refl
length-flags_of (cat a b) m = omega (arith, length-append (flags_of a m.0) (flags_of b m.1), length-flags_of a m.0, length-flags_of b m.1)
length-flags_of none m = refl
length-flags_of (alt a b) m = omega (arith, length-append (flags_of a m.0) (flags_of b m.1), length-flags_of a m.0, length-flags_of b m.1)
length-flags_of (plus a) m = length-flags_of a m
length-flags_of (tidy a) m = length-flags_of a m

-- the marks of flags
pub marks_of-flags_of : (r : Core) (m : Marks r) (t : List Bool) → marks_of r (flags_of r m ++ t) ≡ m
marks_of-flags_of empty m t = refl
marks_of-flags_of (one passes) m t = refl
marks_of-flags_of (cat a b) m t =
    let left : marks_of a (flags_of (cat a b) m ++ t) ≡ m.0 = rw append_assoc (marks_of-flags_of a m.0 (flags_of b m.1 ++ t)) in
    let right : marks_of b (drop (weight a) (flags_of (cat a b) m ++ t)) ≡ m.1 =
    rw (append_assoc, drop_at (flags_of a m.0) (flags_of b m.1 ++ t) (weight a) (length-flags_of a m.0)) (marks_of-flags_of b m.1 t) in
    λ i. (left i, right i)
marks_of-flags_of none m t = refl
marks_of-flags_of (alt a b) m t =
    let left : marks_of a (flags_of (alt a b) m ++ t) ≡ m.0 = rw append_assoc (marks_of-flags_of a m.0 (flags_of b m.1 ++ t)) in
    let right : marks_of b (drop (weight a) (flags_of (alt a b) m ++ t)) ≡ m.1 =
    rw (append_assoc, drop_at (flags_of a m.0) (flags_of b m.1 ++ t) (weight a) (length-flags_of a m.0)) (marks_of-flags_of b m.1 t) in
    λ i. (left i, right i)
marks_of-flags_of (plus a) m t = marks_of-flags_of a m t
marks_of-flags_of (tidy a) m t = marks_of-flags_of a m t

flags_of-no_marks : (r : Core) → flags_of r (no_marks r) ≡ replicate (weight r) false
flags_of-no_marks empty = refl
flags_of-no_marks (one passes) = refl
flags_of-no_marks (cat a b) = rw (flags_of-no_marks a, flags_of-no_marks b) (replicate-append-replicate (weight a) (weight b) false)
flags_of-no_marks none = refl
flags_of-no_marks (alt a b) = rw (flags_of-no_marks a, flags_of-no_marks b) (replicate-append-replicate (weight a) (weight b) false)
flags_of-no_marks (plus a) = flags_of-no_marks a
flags_of-no_marks (tidy a) = flags_of-no_marks a

-- rows that begin with clear flags
pub marks_of-clear : (r : Core) (t : List Bool) → marks_of r (replicate (weight r) false ++ t) ≡ no_marks r
marks_of-clear r t = ap (λ s. marks_of r (s ++ t)) (sym (flags_of-no_marks r)) ∙ marks_of-flags_of r (no_marks r) t

first_flag-replicate : (n : ℕ) → first_flag (replicate n false) ≡ false
first_flag-replicate zero = refl
first_flag-replicate (suc n) = refl

pub marks_of-replicate : (r : Core) (n : ℕ) → marks_of r (replicate n false) ≡ no_marks r
marks_of-replicate empty n = refl
marks_of-replicate (one passes) n = first_flag-replicate n
marks_of-replicate (cat a b) n =
    let left : marks_of a (replicate n false) ≡ no_marks a = marks_of-replicate a n in
    let right : marks_of b (drop (weight a) (replicate n false)) ≡ no_marks b = rw drop-replicate (marks_of-replicate b (n - weight a)) in
    λ i. (left i, right i)
marks_of-replicate none n = refl
marks_of-replicate (alt a b) n =
    let left : marks_of a (replicate n false) ≡ no_marks a = marks_of-replicate a n in
    let right : marks_of b (drop (weight a) (replicate n false)) ≡ no_marks b = rw drop-replicate (marks_of-replicate b (n - weight a)) in
    λ i. (left i, right i)
marks_of-replicate (plus a) n = marks_of-replicate a n
marks_of-replicate (tidy a) n = marks_of-replicate a n

-- ---- answers

pub Leaves-empty : (after entry : Bool) (row : List Bool) (at : ℕ) → Leaves empty after entry row at entry
Leaves-empty after entry row at = record { answer = refl }

pub Leaves-none : (after entry : Bool) (row : List Bool) (at : ℕ) → Leaves none after entry row at false
Leaves-none after entry row at = record { answer = refl }

module _ (a b : Core) (after entry : Bool) (row : List Bool) (at : ℕ) (x y : Bool) where
  pub Leaves-cat : Leaves a after entry row at x → Leaves b after x row (at + weight a) y → Leaves (cat a b) after entry row at y
  Leaves-cat p q = record { answer = rw (drop-drop, ← p.answer) q.answer }

  pub Leaves-alt : Leaves a after entry row at x → Leaves b after entry row (at + weight a) y → Leaves (alt a b) after entry row at (x || y)
  Leaves-alt p q = record { answer = rw (drop-drop, ← p.answer, ← q.answer) refl }

-- the first child may be left out with all after it
pub Leaves-front : (a b : Core) (after entry : Bool) (row : List Bool) (at : ℕ) (x y : Bool) →
    Leaves a after entry row at x → Leaves b after x row (at + weight a) y → Leaves (alt empty (cat a b)) after entry row at (entry || y)
Leaves-front a b after entry row at x y p q =
    let rest : Leaves (cat a b) after entry row at y = Leaves-cat a b after entry row at x y p q in
    record { answer = ap (λ z. entry || z) rest.answer }

pub Leaves-tidy : (a : Core) (entry : Bool) (row : List Bool) (at : ℕ) (x : Bool) →
    Leaves a false entry row at x → Leaves (tidy a) false entry row at x
Leaves-tidy a entry row at x p = record { answer = p.answer }

pub Leaves-tidy-after : (a : Core) (entry : Bool) (row : List Bool) (at : ℕ) (has_empty : Bool) →
    has_empty ≡ is_nullable a → Leaves (tidy a) true entry row at (entry && has_empty)
Leaves-tidy-after a entry row at has_empty e = record { answer = ap (λ b. entry && b) e }

pub Leaves-plus : (a : Core) (after entry : Bool) (row : List Bool) (at : ℕ) (x : Bool) →
    Leaves a after entry row at x → Leaves (plus a) after entry row at x
Leaves-plus a after entry row at x p = record { answer = p.answer }

first_flag-drop : (row : List Bool) (at : ℕ) (d : Bool) → at < length row → first_flag (drop at row) ≡ get_or row at d
first_flag-drop row at d h = ap first_flag (drop_more row at d h)

pub Leaves-one : (passes : ℕ → Bool) (after entry : Bool) (row : List Bool) (at : ℕ) (x d : Bool) → at < length row →
    x ≡ get_or row at d → Leaves (one passes) after entry row at x
Leaves-one passes after entry row at x d h e = record { answer = e ∙ sym (first_flag-drop row at d h) }

-- ---- a row in which a range was written anew

module _ (old seg : List Bool) (at k : ℕ) (width : at ≤ length old) (end : k ≡ at + length seg) where
  front_length : length (take at old ++ seg) ≡ k
  front_length = omega (arith, length-append (take at old) seg, length-take-le at old width)

  take-patch : take k (take at old ++ seg ++ drop k old) ≡ take at old ++ seg
  take-patch = take_at (take at old ++ seg) (drop k old) k front_length

  drop-patch : drop k (take at old ++ seg ++ drop k old) ≡ drop k old
  drop-patch = drop_at (take at old ++ seg) (drop k old) k front_length

  drop-patch-more : (w next : ℕ) → next ≡ k + w → drop next (take at old ++ seg ++ drop k old) ≡ drop next old
  drop-patch-more w next e =
      ap (λ n. drop n (take at old ++ seg ++ drop k old)) e
      ∙ sym (drop-drop w k (take at old ++ seg ++ drop k old)) ∙ ap (drop w) drop-patch ∙ drop-drop w k old
      ∙ ap (λ n. drop n old) (sym e)

-- ---- letters

same_row : (row : List Bool) (at end : ℕ) → end ≡ at → row ≡ take at row ++ [] ++ drop end row
same_row row at end e =
    sym (ap (λ s. s ++ drop end row) (append-nil (take at row)) ∙ ap (λ n. take at row ++ drop n row) e ∙ take-append-drop at row)

pub Shifts-empty : (after entry : Bool) (c : ℕ) (row : List Bool) (at : ℕ) → Shifts empty after entry c row at row entry
Shifts-empty after entry c row at = record { walk = Leaves-empty after entry row at; row = same_row row at (at + 0) (omega arith) }

pub Shifts-none : (after entry : Bool) (c : ℕ) (row : List Bool) (at : ℕ) → Shifts none after entry c row at row false
Shifts-none after entry c row at = record { walk = Leaves-none after entry row at; row = same_row row at (at + 0) (omega arith) }

-- what the first walk wrote lies before the second one's position
module _ (a : Core) (after entry : Bool) (c : ℕ) (old : List Bool) (at : ℕ) (mid : List Bool) (x : Bool)
    (width : at + weight a ≤ length old) (p : Shifts a after entry c old at mid x) where
  written : List Bool
  written = flags_of a (shift a after entry (marks_of a (drop at old)) c)

  end : at + weight a ≡ at + length (flags_of a (shift a after entry (marks_of a (drop at old)) c))
  end = omega (arith, length-flags_of a (shift a after entry (marks_of a (drop at old)) c))

  pub Shifts-take : take (at + weight a) mid ≡ take at old ++ flags_of a (shift a after entry (marks_of a (drop at old)) c)
  Shifts-take = ap (take (at + weight a)) p.row
      ∙ take-patch old (flags_of a (shift a after entry (marks_of a (drop at old)) c)) at (at + weight a) (omega arith) end

  pub Shifts-drop : drop (at + weight a) mid ≡ drop (at + weight a) old
  Shifts-drop = ap (drop (at + weight a)) p.row
      ∙ drop-patch old (flags_of a (shift a after entry (marks_of a (drop at old)) c)) at (at + weight a) (omega arith) end

  pub Shifts-drop-more : (w next : ℕ) → next ≡ at + weight a + w → drop next mid ≡ drop next old
  Shifts-drop-more w next e = ap (drop next) p.row
      ∙ drop-patch-more old (flags_of a (shift a after entry (marks_of a (drop at old)) c)) at (at + weight a) (omega arith) end w next e

  pub Leaves-past : (b : Core) (e : Bool) (y : Bool) → Leaves b after e mid (at + weight a) y → Leaves b after e old (at + weight a) y
  Leaves-past b e y q = record { answer = rw Shifts-drop at q.answer }

-- two walks in a row, as a cat or an alt has them
module _ (a b : Core) (after entry : Bool) (c : ℕ) (old : List Bool) (at : ℕ) (mid : List Bool) (x : Bool) (new : List Bool) (y : Bool)
    (width : at + weight a ≤ length old) (p : Shifts a after entry c old at mid x) where
  rest : at + weight a + weight b ≡ at + (weight a + weight b)
  rest = omega arith

  pub Shifts-cat : Shifts b after x c mid (at + weight a) new y → Shifts (cat a b) after entry c old at new y
  Shifts-cat q = record {
    walk = Leaves-cat a b after entry old at x y p.walk (Leaves-past a after entry c old at mid x width p b x y q.walk);
    row = q.row ∙ rw (
      Shifts-take a after entry c old at mid x width p,
      Shifts-drop a after entry c old at mid x width p,
      Shifts-drop-more a after entry c old at mid x width p (weight b) (at + weight a + weight b) refl,
      drop-drop,
      ← p.walk.answer,
      ← rest,
    ) (ap (λ s. s ++ drop (at + weight a + weight b) old) (append_assoc (take at old)
        (flags_of a (shift a after entry (marks_of a (drop at old)) c)) (flags_of b (shift b after x (marks_of b (drop (at + weight a) old)) c))));
  }

  pub Shifts-alt : Shifts b after entry c mid (at + weight a) new y → Shifts (alt a b) after entry c old at new (x || y)
  Shifts-alt q = record {
    walk = Leaves-alt a b after entry old at x y p.walk (Leaves-past a after entry c old at mid x width p b entry y q.walk);
    row = q.row ∙ rw (
      Shifts-take a after entry c old at mid x width p,
      Shifts-drop a after entry c old at mid x width p,
      Shifts-drop-more a after entry c old at mid x width p (weight b) (at + weight a + weight b) refl,
      drop-drop,
      ← rest,
    ) (ap (λ s. s ++ drop (at + weight a + weight b) old) (append_assoc (take at old)
        (flags_of a (shift a after entry (marks_of a (drop at old)) c)) (flags_of b (shift b after entry (marks_of b (drop (at + weight a) old)) c))));
  }

none_more : (n : ℕ) → n ≡ 0 + n
none_more n = omega arith

-- the first child may be left out with all after it
pub Shifts-front : (a b : Core) (after entry : Bool) (c : ℕ) (old : List Bool) (at : ℕ) (mid : List Bool) (x : Bool) (new : List Bool) (y : Bool) →
    at + weight a ≤ length old → Shifts a after entry c old at mid x → Shifts b after x c mid (at + weight a) new y →
    Shifts (alt empty (cat a b)) after entry c old at new (entry || y)
Shifts-front a b after entry c old at mid x new y width p q =
    let rest : Shifts (cat a b) after entry c old at new y = Shifts-cat a b after entry c old at mid x new y width p q in
    record {
      walk = Leaves-front a b after entry old at x y p.walk (Leaves-past a after entry c old at mid x width p b x y q.walk);
      row = rest.row ∙ ap (λ w. take at old
          ++ flags_of (cat a b) (shift (cat a b) after entry (marks_of (cat a b) (drop at old)) c)
          ++ drop (at + w) old) (none_more (weight a + weight b));
    }

pub Shifts-plus : (a : Core) (after entry : Bool) (c : ℕ) (old : List Bool) (at : ℕ) (new : List Bool) (x y : Bool) →
    Leaves a after entry old at x → Shifts a after (entry || x) c old at new y → Shifts (plus a) after entry c old at new x
Shifts-plus a after entry c old at new x y p q = record {
  walk = Leaves-plus a after entry old at x p;
  row = rw (← p.answer) q.row;
}

pub Shifts-one : (passes : ℕ → Bool) (after entry : Bool) (c : ℕ) (old : List Bool) (at : ℕ) (new : List Bool) (x d : Bool) →
    at < length old → x ≡ get_or old at d → new ≡ set old at (entry && passes c) → Shifts (one passes) after entry c old at new x
Shifts-one passes after entry c old at new x d h e w = record {
  walk = Leaves-one passes after entry old at x d h e;
  row = w ∙ set_split old at (entry && passes c) h
      ∙ rw add-one (sym (append_assoc (take at old) ((entry && passes c) ∷ []) (drop (suc at) old)));
}

-- a walk over the whole row
pub Shifts-marks_of : (r : Core) (after entry : Bool) (c : ℕ) (old new : List Bool) (x : Bool) →
    Shifts r after entry c old 0 new x → marks_of r new ≡ shift r after entry (marks_of r old) c
Shifts-marks_of r after entry c old new x p =
    ap (marks_of r) p.row ∙ marks_of-flags_of r (shift r after entry (marks_of r old) c) (drop (0 + weight r) old)

-- a walk over clear flags, where none begins, changes nothing
pub Shifts-clear : (r : Core) (after : Bool) (c : ℕ) (row : List Bool) (at : ℕ) (tail : List Bool) →
    row ≡ take at row ++ replicate (weight r) false ++ drop (at + weight r) row →
    drop at row ≡ replicate (weight r) false ++ tail → Shifts r after false c row at row false
Shifts-clear r after c row at tail whole clear =
    let none : marks_of r (drop at row) ≡ no_marks r = ap (marks_of r) clear ∙ marks_of-clear r tail in
    record {
      walk = record { answer = rw none (sym (can_leave-no_marks r after)) };
      row = whole ∙ rw (none, shift-no_marks r after c, flags_of-no_marks r) refl;
    }

-- the same of a range of the row that is clear
pub Shifts-clear_slice : (r : Core) (after : Bool) (c : ℕ) (row : List Bool) (at n : ℕ) → at + weight r ≤ length row → n ≡ weight r →
    slice_range row at (at + n) ≡ replicate (length (slice_range row at (at + n))) false → Shifts r after false c row at row false
Shifts-clear_slice r after c row at n width size clear =
    let split = drop_split row at (at + n) (omega arith) in
    let few : length (slice_range row at (at + n)) ≡ weight r =
    omega (arith, ap length split, length-append (slice_range row at (at + n)) (drop (at + n) row), length-drop at row, length-drop (at + n) row) in
    let here : drop at row ≡ replicate (weight r) false ++ drop (at + weight r) row =
    split ∙ ap (λ s. s ++ drop (at + n) row) (clear ∙ ap (λ k. replicate k false) few) ∙ ap (λ k. replicate (weight r) false ++ drop (at + k) row) size in
    Shifts-clear r after c row at (drop (at + weight r) row)
    (sym (take-append-drop at row) ∙ ap (λ s. take at row ++ s) here
    ∙ sym (append_assoc (take at row) (replicate (weight r) false) (drop (at + weight r) row))) here

-- ---- tidy words

and_none : (b : Bool) → (b && false) ≡ false
and_none true = refl
and_none false = refl

and_all : (b : Bool) → (b && true) ≡ b
and_all true = refl
and_all false = refl

pub Shifts-tidy : (a : Core) (after entry : Bool) (c : ℕ) (old : List Bool) (at : ℕ) (new : List Bool) (x y : Bool) →
    ((c == blank) && after) ≡ false → Leaves (tidy a) after entry old at x →
    Shifts a after (entry && not (c == blank)) c old at new y → Shifts (tidy a) after entry c old at new x
Shifts-tidy a after entry c old at new x y is p q = record { walk = p; row = q.row ∙ by_blank after (c == blank) is }
  where
    by_blank : (s b : Bool) → (b && s) ≡ false →
        take at old ++ flags_of a (shift a s (entry && not b) (marks_of a (drop at old)) c) ++ drop (at + weight a) old
        ≡ take at old ++ flags_of a (if b then
        (if s then no_marks a else shift a s false (marks_of a (drop at old)) c) else shift a s entry
        (marks_of a (drop at old)) c) ++ drop (at + weight a) old
    by_blank true true h = cc
    by_blank false true h = ap (λ e. take at old ++ flags_of a (shift a false e (marks_of a (drop at old)) c) ++ drop (at + weight a) old) (and_none entry)
    by_blank s false h = ap (λ e. take at old ++ flags_of a (shift a s e (marks_of a (drop at old)) c) ++ drop (at + weight a) old) (and_all entry)

pub Shifts-tidy-clear : (a : Core) (entry : Bool) (c : ℕ) (old : List Bool) (at next : ℕ) (new : List Bool) (x : Bool) →
    (c == blank) ≡ true → Leaves (tidy a) true entry old at x → next ≡ at + weight a →
    new ≡ take at old ++ replicate (next - at) false ++ drop next old → Shifts (tidy a) true entry c old at new x
Shifts-tidy-clear a entry c old at next new x is p n w =
    let size : next - at ≡ weight a = omega (arith, n) in
    record { walk = p; row = w ∙ rw (is, flags_of-no_marks a, size, n) refl }
