-- Whether an expression describes a list of tokens, as a test that computes: the marked expression reads the letters.
use Rattle.std.specs.Prelude.{ℕ, zero, suc, Bool, true, false, ◌&&◌, ◌||◌, not, List, [], ◌∷◌}
use Rattle.lic_words.specs.Words.{blank}
use Rattle.lic_words.specs.Expressions.{Expression}
use Rattle.lic_words.specs.Spelling.{Gap, no_gap, free, needed, gapped}
use Rattle.lic_marks.specs.Cores.{Core, empty, one, cat, none, alt, plus, tidy, core}
use Rattle.lic_marks.specs.Marks.{Marks, no_marks, join, can_leave, shift}
use Rattle.lic_marks.specs.Rows.{weight}
use Rattle.lic_marks.specs.Representing.{shift_over}

-- whether the second has a position marked that the first has not
abbrev pub has_new : (r : Core) → Marks r → Marks r → Bool
has_new empty m n = false
has_new (one passes) m n = n && not m
has_new (cat a b) m n = has_new a m.0 n.0 || has_new b m.1 n.1
has_new none m n = false
has_new (alt a b) m n = has_new a m.0 n.0 || has_new b m.1 n.1
has_new (plus a) m n = has_new a m n
has_new (tidy a) m n = has_new a m n

-- The marks joined with those after one blank more, up to that many times. `grew` says that the last time
-- marked a new position; where it did not, neither would one time more.
abbrev pub gather : ℕ → (grew : Bool) → (r : Core) → Marks r → Marks r
gather zero grew r m = m
gather (suc n) false r m = m
gather (suc n) true r m =
    let next = shift r true false m blank in gather n (has_new r m next) r (join r m next)

-- The marks after one blank or more, from those for what may follow at once. Each time but the last marks a new
-- position, so there are no more times than positions.
abbrev pub over_blanks : (r : Core) → (entry : Bool) → Marks r → Marks r
over_blanks r entry at_once = gather (weight r) true r (shift r false entry at_once blank)

-- the marks after one letter more, which is no blank, and the gap before it
abbrev pub read_letter : (r : Core) → (entry : Bool) → Marks r → Gap → ℕ → Marks r
read_letter r entry at_once no_gap c = shift r false entry at_once c
read_letter r entry at_once free c = shift_over r entry at_once (over_blanks r entry at_once) free c
read_letter r entry at_once needed c = shift_over r entry at_once (over_blanks r entry at_once) needed c

-- whether the letters with their gaps, and then some blanks, lead from the marks to the end of a word
abbrev pub can_read : (r : Core) → (entry : Bool) → Marks r → List (Gap × ℕ) → Bool
can_read r entry at_once [] = can_leave r false entry at_once || can_leave r true false (over_blanks r entry at_once)
can_read r entry at_once (p ∷ rest) = can_read r false (read_letter r entry at_once p.0 p.1) rest

-- whether the expression describes the tokens: the list is not empty, and its letters can be read from the beginning
abbrev pub is_described : Expression → List (List ℕ) → Bool
is_described e [] = false
is_described e (t ∷ ts) = can_read (core e) true (no_marks (core e)) (gapped (t ∷ ts))
