-- Whether one can leave, by the marks that are there and by the word with which one enters.
use Rattle.std.proofs.Common.{◌≡◌, ℕ, Bool, true, false, not, ◌&&◌, ◌||◌, List, drop, refl, sym, ap, ◌∙◌}
use Rattle.lic_marks.specs.Cores.{Core, empty, one, cat, none, alt, plus, tidy}
use Rattle.lic_marks.specs.Marks.{Marks, is_nullable, can_leave}
use Rattle.lic_marks.specs.Rows.{marks_of, Leaves}

entry_alone : (entry : Bool) → entry ≡ (entry && true)
entry_alone true = refl
entry_alone false = refl

mark_alone : (m entry : Bool) → m ≡ (m || (entry && false))
mark_alone true entry = refl
mark_alone false true = refl
mark_alone false false = refl

none_alone : (entry : Bool) → false ≡ (entry && false)
none_alone true = refl
none_alone false = refl

-- x and y say whether one can leave the parts by marks alone, p and q whether the parts have the empty word
in_row : (y x entry q p : Bool) → (y || ((x || (entry && p)) && q)) ≡ ((y || (x && q)) || (entry && (p && q)))
in_row true x entry q p = refl
in_row false true entry true p = refl
in_row false true false false p = refl
in_row false true true false true = refl
in_row false true true false false = refl
in_row false false true q p = refl
in_row false false false q p = refl

in_any : (x y entry p q : Bool) → ((x || (entry && p)) || (y || (entry && q))) ≡ ((x || y) || (entry && (p || q)))
in_any true y entry p q = refl
in_any false true false p q = refl
in_any false true true true q = refl
in_any false true true false q = refl
in_any false false false p q = refl
in_any false false true true q = refl
in_any false false true false q = refl

-- one can leave by a mark, or one enters with the empty word
pub can_leave-entry : (r : Core) (after entry : Bool) (m : Marks r) → can_leave r after entry m ≡ (can_leave r after false m || (entry && is_nullable r))
can_leave-entry empty after entry m = entry_alone entry
can_leave-entry (one passes) after entry m = mark_alone m entry
can_leave-entry (cat a b) after entry m =
    can_leave-entry b after (can_leave a after entry m.0) m.1
    ∙ ap (λ x. can_leave b after false m.1 || (x && is_nullable b)) (can_leave-entry a after entry m.0)
    ∙ in_row (can_leave b after false m.1) (can_leave a after false m.0) entry (is_nullable b) (is_nullable a)
    ∙ ap (λ x. x || (entry && (is_nullable a && is_nullable b))) (sym (can_leave-entry b after (can_leave a after false m.0) m.1))
can_leave-entry none after entry m = none_alone entry
can_leave-entry (alt a b) after entry m =
    ap (λ x. x || can_leave b after entry m.1) (can_leave-entry a after entry m.0)
    ∙ ap (λ x. (can_leave a after false m.0 || (entry && is_nullable a)) || x) (can_leave-entry b after entry m.1)
    ∙ in_any (can_leave a after false m.0) (can_leave b after false m.1) entry (is_nullable a) (is_nullable b)
can_leave-entry (plus a) after entry m = can_leave-entry a after entry m
can_leave-entry (tidy a) true entry m = refl
can_leave-entry (tidy a) false entry m = can_leave-entry a false entry m

both : (entry p x : Bool) → (entry && p) ≡ ((entry && p) || (x && false))
both true true x = refl
both true false true = refl
both true false false = refl
both false p true = refl
both false p false = refl

by_either : (entry p x may : Bool) → (x || (entry && p)) ≡ ((entry && p) || ((x || ((entry && may) && p)) && true))
by_either false p true may = refl
by_either false p false may = refl
by_either true true true may = refl
by_either true true false may = refl
by_either true false true may = refl
by_either true false false true = refl
by_either true false false false = refl

-- the answer for tidy words by that of a walk in which one may not always enter
pub Leaves-tidy-past : (a : Core) (after entry may : Bool) (row : List Bool) (at : ℕ) (has_empty past : Bool) → has_empty ≡ is_nullable a →
    Leaves a after (entry && may) row at past → Leaves (tidy a) after entry row at ((entry && has_empty) || (past && not after))
Leaves-tidy-past a true entry may row at has_empty past e p =
    record { answer = sym (ap (λ b. entry && b) (sym e) ∙ both entry has_empty past) }
Leaves-tidy-past a false entry may row at has_empty past e p =
    let m = marks_of a (drop at row) in
    let is : past ≡ (can_leave a false false m || ((entry && may) && has_empty)) =
    p.answer ∙ can_leave-entry a false (entry && may) m ∙ ap (λ b. can_leave a false false m || ((entry && may) && b)) (sym e) in
    record {
      answer = sym (can_leave-entry a false entry m ∙ ap (λ b. can_leave a false false m || (entry && b)) (sym e)
          ∙ by_either entry has_empty (can_leave a false false m) may
          ∙ ap (λ b. (entry && has_empty) || (b && true)) (sym is));
    }

pub and_never : (b s : Bool) → s ≡ false → (b && s) ≡ false
and_never true s e = e
and_never false s e = refl

pub never_and : (b s : Bool) → b ≡ false → (b && s) ≡ false
never_and b s e = ap (λ x. x && s) e
