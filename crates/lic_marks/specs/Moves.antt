-- Flags that move on by one position.
use Rattle.std.specs.Prelude.{◌≡◌, ◌≢◌, ◌-◌, ℕ, zero, suc, ◌+◌, ◌<◌, ◌≤◌, ◌&&◌, Bool, false, List, get_or, drop}

-- the flag before the position j of a row, and before the first position whether one enters there
abbrev pub flag_before : List Bool → Bool → ℕ → Bool
flag_before row entry zero = entry
flag_before row entry (suc j) = get_or row j false

-- on the n positions from `at` on each flag moved on by one position, where that position takes the letter
pub record Moves (takes : ℕ → Bool) (entry : Bool) (old : List Bool) (at n : ℕ) (new : List Bool) : Type 0 where
  pub inside : (j : ℕ) → j < n → get_or new (at + j) false ≡ (flag_before (drop at old) entry j && takes j)
  pub before : (k : ℕ) → k < at → get_or new k false ≡ get_or old k false
  pub past : (k : ℕ) → at + n ≤ k → get_or new k false ≡ get_or old k false

-- of the n positions from `at` on, the mark at this one moved to the next, where that takes the letter
pub record Advances (takes : ℕ → Bool) (old : List Bool) (at n position : ℕ) (new : List Bool) : Type 0 where
  pub here : get_or new position false ≡ false
  pub next : position + 1 < at + n → get_or new (position + 1) false ≡ takes (position + 1 - at)
  pub other : (k : ℕ) → k ≢ position → (k ≡ position + 1 → at + n ≤ k) → get_or new k false ≡ get_or old k false
