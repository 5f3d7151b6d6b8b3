-- Streaks of letters and blanks that pass.
use Rattle.std.specs.Prelude.{◌≡◌, ◌⊎◌, ℕ, zero, suc, ◌≤◌, Bool, true, false, List, [], ◌∷◌, length}
use Rattle.lic_words.specs.Words.{Word, blank}
use Rattle.lic_view.specs.LettersBefore.{IsLetterBefore}
use Rattle.lic_reverse.specs.Tidily.{IsTakenBack, Taken, a_letter, nothing}

-- all letters and blanks of a word pass
abbrev pub AllPass : (ℕ → Bool) → Word → Type 0
AllPass passes [] = Unit {0}
AllPass passes (c ∷ w) = (passes c ≡ true) × AllPass passes w

-- a word of at most `count` letters and blanks, which all pass, and first a letter
pub record IsStreak (passes : ℕ → Bool) (count : ℕ) (w : Word) : Type 0 where
  pub passing : AllPass passes w
  pub few : length w ≤ count
  pub first : ℕ
  pub later : Word
  pub dark : ¬ (first ≡ blank)
  pub is : w ≡ first ∷ later

-- what is taken last before the word: a letter or not
abbrev pub before_of : Bool → Taken
before_of true = a_letter
before_of false = nothing

-- a streak that ends in a blank only where a letter was taken last before it
abbrev pub IsStreakTo : (ℕ → Bool) → ℕ → Bool → Word → Type 0
IsStreakTo passes count after w = IsStreak passes count w × IsTakenBack a_letter w (before_of after)

-- a number of letters and blanks that pass are from one place up to the other
abbrev pub IsChain : List ℕ → (ℕ → Bool) → ℕ → ℕ → ℕ → Type 0
IsChain bytes passes zero low place = low ≡ place
IsChain bytes passes (suc count) low place = (next c : ℕ) × IsLetterBefore bytes next low c × (passes c ≡ true) × IsChain bytes passes count next place

-- the place from which at most `count` are up to a place, and no more of those that pass
pub record IsStreakStart (bytes : List ℕ) (passes : ℕ → Bool) (count place low : ℕ) : Type 0 where
  pub number : ℕ
  pub few : number ≤ count
  pub chain : IsChain bytes passes number low place
  pub stop : (number ≡ count) ⊎ ((p c : ℕ) → IsLetterBefore bytes low p c → passes c ≡ true → ⊥)
