-- Two rows of flags joined.
use Rattle.std.proofs.Common.{◌≡◌, ℕ, zero, suc, ◌+◌, ◌≤◌, ◌<◌, ◌||◌, Bool, true, false, List, [], ◌∷◌, length, drop, get_or, refl, arith}
use Rattle.std.proofs.lemmas.List.{get_or-drop}
use Rattle.lic_marks.specs.Cores.{Core, empty, one, cat, none, alt, plus, tidy}
use Rattle.lic_marks.specs.Marks.{join}
use Rattle.lic_marks.specs.Rows.{weight, marks_of, first_flag, unset_count}

first : (row : List Bool) → first_flag row ≡ get_or row 0 false
first [] = refl
first (flag ∷ row) = refl

-- each flag of the third row is set where it is in one of the other two
abbrev IsEither : List Bool → List Bool → List Bool → Type 0
IsEither xs ys zs = (k : ℕ) → get_or zs k false ≡ (get_or xs k false || get_or ys k false)

IsEither-drop : (n : ℕ) (xs ys zs : List Bool) → IsEither xs ys zs → IsEither (drop n xs) (drop n ys) (drop n zs)
IsEither-drop n xs ys zs h k = rw (get_or-drop n zs k false, get_or-drop n xs k false, get_or-drop n ys k false) (h (n + k))

pub marks_of-either : (r : Core) (xs ys zs : List Bool) → ((k : ℕ) → get_or zs k false ≡ (get_or xs k false || get_or ys k false))
    → marks_of r zs ≡ join r (marks_of r xs) (marks_of r ys)
marks_of-either empty xs ys zs h = refl
marks_of-either (one passes) xs ys zs h = rw (first zs, first xs, first ys) (h 0)
marks_of-either (cat a b) xs ys zs h =
    let left = marks_of-either a xs ys zs h in
    let right = marks_of-either b (drop (weight a) xs) (drop (weight a) ys) (drop (weight a) zs) (IsEither-drop (weight a) xs ys zs h) in
    λ i. (left i, right i)
marks_of-either none xs ys zs h = refl
marks_of-either (alt a b) xs ys zs h =
    let left = marks_of-either a xs ys zs h in
    let right = marks_of-either b (drop (weight a) xs) (drop (weight a) ys) (drop (weight a) zs) (IsEither-drop (weight a) xs ys zs h) in
    λ i. (left i, right i)
marks_of-either (plus a) xs ys zs h = marks_of-either a xs ys zs h
marks_of-either (tidy a) xs ys zs h = marks_of-either a xs ys zs h

-- a row that has all flags of another has no more that are not set, and less where it has one that the other has not
unset_most : (old new : List Bool) → length new ≡ length old
    → ((k : ℕ) → get_or old k false ≡ true → get_or new k false ≡ true) → unset_count new ≤ unset_count old
unset_most [] [] h more = omega arith
unset_most [] (y ∷ new) h more = absurd (let e : suc (length new) ≡ 0 = h in cc)
unset_most (x ∷ old) [] h more = absurd (let e : 0 ≡ suc (length old) = h in cc)
unset_most (x ∷ old) (true ∷ new) h more =
    let rest = unset_most old new (omega (arith, h)) (λ k. more (suc k)) in by_first x rest
  where
    by_first : (x : Bool) → unset_count new ≤ unset_count old → unset_count (true ∷ new) ≤ unset_count (x ∷ old)
    by_first true rest = rest
    by_first false rest = omega arith
unset_most (true ∷ old) (false ∷ new) h more = absurd (let e = more 0 refl in cc)
unset_most (false ∷ old) (false ∷ new) h more =
    let rest = unset_most old new (omega (arith, h)) (λ k. more (suc k)) in omega arith

pub unset_less : (old new : List Bool) → length new ≡ length old → ((k : ℕ) → get_or old k false ≡ true → get_or new k false ≡ true)
    → (k : ℕ) → get_or old k false ≡ false → get_or new k false ≡ true → unset_count new < unset_count old
unset_less [] [] h more k unset set = absurd cc
unset_less [] (y ∷ new) h more k unset set = absurd (let e : suc (length new) ≡ 0 = h in cc)
unset_less (x ∷ old) [] h more k unset set = absurd cc
unset_less (true ∷ old) (y ∷ new) h more zero unset set = absurd cc
unset_less (false ∷ old) (true ∷ new) h more zero unset set =
    let rest = unset_most old new (omega (arith, h)) (λ k. more (suc k)) in omega arith
unset_less (false ∷ old) (false ∷ new) h more zero unset set = absurd cc
unset_less (true ∷ old) (true ∷ new) h more (suc k) unset set = unset_less old new (omega (arith, h)) (λ k. more (suc k)) k unset set
unset_less (true ∷ old) (false ∷ new) h more (suc k) unset set = absurd (let e = more 0 refl in cc)
unset_less (false ∷ old) (true ∷ new) h more (suc k) unset set =
    let rest = unset_less old new (omega (arith, h)) (λ k. more (suc k)) k unset set in omega arith
unset_less (false ∷ old) (false ∷ new) h more (suc k) unset set =
    let rest = unset_less old new (omega (arith, h)) (λ k. more (suc k)) k unset set in omega arith

kept_set : (x y z : Bool) → z ≡ (x || y) → x ≡ true → z ≡ true
kept_set true y z e h = e
kept_set false y z e h = absurd (let f : false ≡ true = h in cc)

-- where one flag is new, fewer are not set
pub unset_fewer : (xs ys zs : List Bool) → length zs ≡ length xs → ((k : ℕ) → get_or zs k false ≡ (get_or xs k false || get_or ys k false))
    → (k : ℕ) × (get_or xs k false ≡ false) × (get_or zs k false ≡ true) → unset_count zs < unset_count xs
unset_fewer xs ys zs long h (k, unset, set) = unset_less xs zs long (λ j. kept_set (get_or xs j false) (get_or ys j false) (get_or zs j false) (h j)) k unset set
