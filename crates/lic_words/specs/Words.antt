-- Words over letters and blanks, and sets of words.
use Rattle.std.specs.Prelude.{◌≡◌, ℕ, zero, suc, List, [], ◌∷◌, ◌++◌, replicate}

abbrev pub Word : Type 0
Word = List ℕ

abbrev pub blank : ℕ
blank = 0x20

-- n blanks in a row
abbrev pub blanks : ℕ → Word
blanks n = replicate n blank

-- no blank first, none last, no two together
pub record IsTidy (w : Word) : Type 0 where
  pub not_first : (v : Word) → w ≡ blank ∷ v → ⊥
  pub not_last : (u : Word) → w ≡ u ++ blank ∷ [] → ⊥
  pub not_two : (u v : Word) → w ≡ u ++ blank ∷ blank ∷ v → ⊥

-- a word of the first set, and then one of the second
abbrev pub Cat : (Word → Type 0) → (Word → Type 0) → Word → Type 0
Cat P Q w = (u v : Word) × P u × Q v × (w ≡ u ++ v)

-- n words of the set in a row
abbrev pub Power : (Word → Type 0) → ℕ → Word → Type 0
Power P zero w = w ≡ []
Power P (suc n) w = Cat P (Power P n) w
