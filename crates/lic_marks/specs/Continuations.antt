-- The words that may follow marks.
use Rattle.std.specs.Prelude.{◌≡◌, Bool, true, false, ◌==◌, ◌&&◌, [], ◌∷◌, ◌⊎◌}
use Rattle.lic_words.specs.Words.{Word, Cat, blank}
use Rattle.lic_marks.specs.Cores.{Core, empty, one, cat, none, alt, plus, tidy, Star, WordsOf}
use Rattle.lic_marks.specs.Marks.{Marks}

-- what may follow in a tidy word, after a blank or another letter
abbrev pub IsTidyAfter : Bool → Word → Type 0
IsTidyAfter after [] = after ≡ false
IsTidyAfter after (c ∷ v) = ((after && (c == blank)) ≡ false) × IsTidyAfter (c == blank) v

-- the words that complete a word of the expression from the marks
abbrev pub Completes : (r : Core) → Bool → Marks r → Word → Type 0
Completes empty after m v = ⊥
Completes (one passes) after m v = (m ≡ true) × (v ≡ [])
Completes (cat a b) after m v = Cat (Completes a after m.0) (WordsOf b) v ⊎ Completes b after m.1 v
Completes none after m v = ⊥
Completes (alt a b) after m v = Completes a after m.0 v ⊎ Completes b after m.1 v
Completes (plus a) after m v = Cat (Completes a after m) (Star (WordsOf a)) v
Completes (tidy a) after m v = Completes a after m v × IsTidyAfter after v

-- the words that may follow the marks, or the beginning where `entry` is true
abbrev pub Continues : (r : Core) → Bool → Bool → Marks r → Word → Type 0
Continues r after entry m v = Completes r after m v ⊎ ((entry ≡ true) × WordsOf r v)
