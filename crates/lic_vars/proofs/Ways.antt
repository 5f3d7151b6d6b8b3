-- Words that are read over the letters of tokens and their gaps.
use Rattle.std.specs.Prelude.{◌≡◌, ℕ, ◌==◌, ◌&&◌, not, Bool, true, false, List, [], ◌∷◌, Option, Some, None}
use Rattle.lic_words.specs.Words.{Word, blank}
use Rattle.lic_words.specs.Spelling.{Gap, no_gap, free, needed}

-- what is left of the letters, and whether blanks were written before them
abbrev pub State : Type 0
State = List (Gap × ℕ) × Bool

-- no letter is a blank
abbrev pub NoBlanks : List (Gap × ℕ) → Type 0
NoBlanks [] = Unit {0}
NoBlanks (p ∷ rest) = ((p.1 == blank) ≡ false) × NoBlanks rest

-- whether a letter may come after the gap
abbrev pub fits : Gap → Bool → Bool
fits no_gap apart = not apart
fits free apart = true
fits needed apart = apart

-- a blank, or the next letter, or neither
abbrev pub pick : Bool → Bool → Option State → Option State → Option State
pick true is_next x y = x
pick false true x y = y
pick false false x y = None

-- the state after a word, where the letters may begin like that
abbrev pub read_word : Word → List (Gap × ℕ) → Bool → Option State
read_word [] left apart = Some (left, apart)
read_word (c ∷ w) [] apart = pick (c == blank) false (read_word w [] true) None
read_word (c ∷ w) (p ∷ left) apart =
    pick (c == blank) (c == p.1 && fits p.0 apart) (read_word w (p ∷ left) true) (read_word w left false)
