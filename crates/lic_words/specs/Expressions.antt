-- Expressions over letters, and the words that they denote.
use Rattle.std.specs.Prelude.{◌≡◌, ◌==◌, ℕ, ◌≤◌, Bool, true, List, [], ◌∷◌, Option, Some, None, ◌⊎◌, map}
use Rattle.lic_words.specs.Words.{Word, IsTidy, Cat, Power}

pub data Expression : Type 0 where
  -- the empty word alone
  empty : Expression
  -- one letter that passes
  one : (ℕ → Bool) → Expression
  cat : Expression → Expression → Expression
  -- no word
  none : Expression
  alt : Expression → Expression → Expression
  -- from a least to a greatest number of words of the body, or more
  repeat : ℕ → Option ℕ → Expression → Expression
  -- the tidy words of the body
  tidy : Expression → Expression

abbrev pub IsAtMost : Option ℕ → ℕ → Type 0
IsAtMost None k = Unit {0}
IsAtMost (Some max) k = k ≤ max

-- the set of words that an expression denotes
abbrev pub Language : Expression → Word → Type 0
Language empty w = w ≡ []
Language (one passes) w = (c : ℕ) × (passes c ≡ true) × (w ≡ c ∷ [])
Language (cat a b) w = Cat (Language a) (Language b) w
Language none w = ⊥
Language (alt a b) w = Language a w ⊎ Language b w
Language (repeat min max a) w = (k : ℕ) × (min ≤ k) × IsAtMost max k × Power (Language a) k w
Language (tidy a) w = Language a w × IsTidy w

-- one after another
abbrev pub cat_all : List Expression → Expression
cat_all [] = empty
cat_all (a ∷ rest) = cat a (cat_all rest)

-- any one of them
abbrev pub alt_all : List Expression → Expression
alt_all [] = none
alt_all (a ∷ rest) = alt a (alt_all rest)

-- this letter
abbrev pub letter : ℕ → Expression
letter c = one (λ d. d == c)

-- these letters
abbrev pub letters : List ℕ → Expression
letters text = cat_all (map letter text)
