-- The marked expression: one mark for each letter position, which says that this position took the last letter
-- (S. Fischer, F. Huch, T. Wilke, 'A Play on Regular Expressions', 2010).
use Rattle.std.specs.Prelude.{ℕ, Bool, true, false, ◌==◌, ◌&&◌, ◌||◌, if◌then◌else◌}
use Rattle.lic_words.specs.Words.{blank}
use Rattle.lic_marks.specs.Cores.{Core, empty, one, cat, none, alt, plus, tidy}

-- a mark for each letter position of a core
abbrev pub Marks : Core → Type 0
Marks empty = Unit {0}
Marks (one passes) = Bool
Marks (cat a b) = Marks a × Marks b
Marks none = Unit {0}
Marks (alt a b) = Marks a × Marks b
Marks (plus a) = Marks a
Marks (tidy a) = Marks a

-- no position is marked
abbrev pub no_marks : (r : Core) → Marks r
no_marks empty = tt
no_marks (one passes) = false
no_marks (cat a b) = (no_marks a, no_marks b)
no_marks none = tt
no_marks (alt a b) = (no_marks a, no_marks b)
no_marks (plus a) = no_marks a
no_marks (tidy a) = no_marks a

-- the positions that either has marked
abbrev pub join : (r : Core) → Marks r → Marks r → Marks r
join empty m n = tt
join (one passes) m n = m || n
join (cat a b) m n = (join a m.0 n.0, join b m.1 n.1)
join none m n = tt
join (alt a b) m n = (join a m.0 n.0, join b m.1 n.1)
join (plus a) m n = join a m n
join (tidy a) m n = join a m n

-- whether the empty word is among the words
abbrev pub is_nullable : Core → Bool
is_nullable empty = true
is_nullable (one passes) = false
is_nullable (cat a b) = is_nullable a && is_nullable b
is_nullable none = false
is_nullable (alt a b) = is_nullable a || is_nullable b
is_nullable (plus a) = is_nullable a
is_nullable (tidy a) = is_nullable a

-- Whether a word of the expression may end here: some mark is at an end, or a word begins here that is empty.
-- `after` says that the last letter was a blank.
abbrev pub can_leave : (r : Core) → Bool → Bool → Marks r → Bool
can_leave empty after entry m = entry
can_leave (one passes) after entry m = m
can_leave (cat a b) after entry m = can_leave b after (can_leave a after entry m.0) m.1
can_leave none after entry m = false
can_leave (alt a b) after entry m = can_leave a after entry m.0 || can_leave b after entry m.1
can_leave (plus a) after entry m = can_leave a after entry m
can_leave (tidy a) after entry m = if after then entry && is_nullable a else can_leave a after entry m

-- The marks after one more letter c. `entry` says that one may begin with it.
abbrev pub shift : (r : Core) → Bool → Bool → Marks r → ℕ → Marks r
shift empty after entry m c = tt
shift (one passes) after entry m c = entry && passes c
shift (cat a b) after entry m c = (shift a after entry m.0 c, shift b after (can_leave a after entry m.0) m.1 c)
shift none after entry m c = tt
shift (alt a b) after entry m c = (shift a after entry m.0 c, shift b after entry m.1 c)
shift (plus a) after entry m c = shift a after (entry || can_leave a after entry m) m c
shift (tidy a) after entry m c =
    if c == blank then (if after then no_marks a else shift a after false m c) else shift a after entry m c
