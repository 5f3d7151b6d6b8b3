-- The marks of an expression as a row of flags, and what is computed on the row.
use Rattle.std.specs.Prelude.{◌≡◌, ℕ, suc, ◌+◌, ◌||◌, Bool, true, false, List, [], ◌∷◌, ◌++◌, take, drop}
use Rattle.lic_marks.specs.Cores.{Core, empty, one, cat, none, alt, plus, tidy}
use Rattle.lic_marks.specs.Marks.{Marks, can_leave, shift}

-- how many letter positions an expression has
abbrev pub weight : Core → ℕ
weight empty = 0
weight (one passes) = 1
weight (cat a b) = weight a + weight b
weight none = 0
weight (alt a b) = weight a + weight b
weight (plus a) = weight a
weight (tidy a) = weight a

-- the marks in a row, in the order of the positions
abbrev pub flags_of : (r : Core) → Marks r → List Bool
flags_of empty m = []
flags_of (one passes) m = m ∷ []
flags_of (cat a b) m = flags_of a m.0 ++ flags_of b m.1
flags_of none m = []
flags_of (alt a b) m = flags_of a m.0 ++ flags_of b m.1
flags_of (plus a) m = flags_of a m
flags_of (tidy a) m = flags_of a m

-- the first flag of a row
abbrev pub first_flag : List Bool → Bool
first_flag [] = false
first_flag (flag ∷ rest) = flag

-- the marks that come first in a row
abbrev pub marks_of : (r : Core) → List Bool → Marks r
marks_of empty row = tt
marks_of (one passes) row = first_flag row
marks_of (cat a b) row = (marks_of a row, marks_of b (drop (weight a) row))
marks_of none row = tt
marks_of (alt a b) row = (marks_of a row, marks_of b (drop (weight a) row))
marks_of (plus a) row = marks_of a row
marks_of (tidy a) row = marks_of a row

-- by the marks in the row from the position `at` on, one can leave
pub record Leaves (r : Core) (after entry : Bool) (row : List Bool) (at : ℕ) (leaves : Bool) : Type 0 where
  pub answer : leaves ≡ can_leave r after entry (marks_of r (drop at row))

-- the marks in the row from the position `at` on are taken over the letter c; the answer is whether one could leave before it
pub record Shifts (r : Core) (after entry : Bool) (c : ℕ) (old : List Bool) (at : ℕ) (new : List Bool)
    (leaves : Bool) : Type 0 where
  pub walk : Leaves r after entry old at leaves
  pub row : new ≡ take at old ++ flags_of r (shift r after entry (marks_of r (drop at old)) c)
      ++ drop (at + weight r) old

-- how many flags are not set
abbrev pub unset_count : List Bool → ℕ
unset_count [] = 0
unset_count (true ∷ xs) = unset_count xs
unset_count (false ∷ xs) = suc (unset_count xs)
