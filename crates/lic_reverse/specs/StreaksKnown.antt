-- Streaks that are known, with how many letters they have.
use Rattle.std.specs.Prelude.{◌≡◌, ◌⊎◌, ℕ, ◌≤◌, Bool, true, List}
use Rattle.lic_reverse.specs.declared.letters.streak.Streak.{Streak}
use Rattle.lic_view.specs.LettersBefore.{IsLetterBefore}
use Rattle.lic_reverse.specs.Streaks.{IsChain}

-- no letter that passes ends at the place
abbrev pub IsNoneBefore : List ℕ → (ℕ → Bool) → ℕ → Type 0
IsNoneBefore bytes passes place = (p c : ℕ) → IsLetterBefore bytes place p c → passes c ≡ true → ⊥

-- letters that all pass: `count`, or fewer with none that passes before them
pub record IsLongest (bytes : List ℕ) (passes : ℕ → Bool) (count : ℕ) (streak : Streak) : Type 0 where
  pub few : streak.number ≤ count
  pub chain : IsChain bytes passes streak.number streak.low streak.place
  pub stop : (streak.number ≡ count) ⊎ IsNoneBefore bytes passes streak.low

-- the same, or they begin at another place
pub record IsStreakBackTo (bytes : List ℕ) (passes : ℕ → Bool) (count until : ℕ) (streak : Streak) : Type 0 where
  pub few : streak.number ≤ count
  pub chain : IsChain bytes passes streak.number streak.low streak.place
  pub stop : (streak.low ≡ until) ⊎ ((streak.number ≡ count) ⊎ IsNoneBefore bytes passes streak.low)
