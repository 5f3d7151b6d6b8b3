-- Expressions whose repetitions are written out, and the words that they denote.
use Rattle.std.specs.Prelude.{◌≡◌, ◌↔◌, ℕ, zero, suc, ◌-◌, Bool, true, ◌==◌, nat_lt, List, [], ◌∷◌, Option, Some, None, ◌⊎◌, if◌then◌else◌}
use Rattle.lic_words.specs.Words.{Word, IsTidy, Cat, Power}
use Rattle.lic_words.specs.Expressions as expressions

pub data Core : Type 0 where
  -- the empty word alone
  empty : Core
  -- one letter that passes
  one : (ℕ → Bool) → Core
  cat : Core → Core → Core
  -- no word
  none : Core
  alt : Core → Core → Core
  -- one word of the body, or more
  plus : Core → Core
  -- the tidy words of the body
  tidy : Core → Core

-- any number of words of the set in a row
abbrev pub Star : (Word → Type 0) → Word → Type 0
Star P w = (n : ℕ) × Power P n w

-- the set of words that a core denotes
abbrev pub WordsOf : Core → Word → Type 0
WordsOf empty w = w ≡ []
WordsOf (one passes) w = (c : ℕ) × (passes c ≡ true) × (w ≡ c ∷ [])
WordsOf (cat a b) w = Cat (WordsOf a) (WordsOf b) w
WordsOf none w = ⊥
WordsOf (alt a b) w = WordsOf a w ⊎ WordsOf b w
WordsOf (plus a) w = Cat (WordsOf a) (Star (WordsOf a)) w
WordsOf (tidy a) w = WordsOf a w × IsTidy w

-- one after another
abbrev pub cat_all : List Core → Core
cat_all [] = empty
cat_all (a ∷ rest) = cat a (cat_all rest)

-- any one of them
abbrev pub alt_all : List Core → Core
alt_all [] = none
alt_all (a ∷ rest) = alt a (alt_all rest)

-- one after another, up to any of them
abbrev pub any_prefix : List Core → Core
any_prefix [] = empty
any_prefix (a ∷ rest) = alt empty (cat a (any_prefix rest))

-- n copies of a in a row
abbrev pub copies : ℕ → Core → Core
copies zero a = empty
copies (suc n) a = cat a (copies n a)

-- up to n copies of a in a row
abbrev pub up_to : ℕ → Core → Core
up_to zero a = empty
up_to (suc n) a = alt empty (cat a (up_to n a))

-- a repetition written out
abbrev pub repeat : ℕ → Option ℕ → Core → Core
repeat min None a = if min == 0 then alt empty (plus a) else cat (copies (min - 1) a) (plus a)
repeat min (Some max) a = if nat_lt max min then none else cat (copies min a) (up_to (max - min) a)

-- an expression with its repetitions written out
abbrev pub core : expressions.Expression → Core
core expressions.empty = empty
core (expressions.one passes) = one passes
core (expressions.cat a b) = cat (core a) (core b)
core expressions.none = none
core (expressions.alt a b) = alt (core a) (core b)
core (expressions.repeat min max a) = repeat min max (core a)
core (expressions.tidy a) = tidy (core a)

-- the core and the expression denote the same words
abbrev pub HasWordsOf : Core → expressions.Expression → Type 0
HasWordsOf r e = (w : Word) → WordsOf r w ↔ expressions.Language e w
