-- How far a loop over two rows has come.
use Rattle.std.proofs.Common.{◌≡◌, ℕ, suc, ◌*◌, ◌/◌, ◌%◌, ◌^◌, ◌<◌, ◌≤◌, List, get_or, length}
use Rattle.std.specs.Prelude.{bit_or}

pub record Done (f : ℕ → ℕ → ℕ) (old from new : List ℕ) (at : ℕ) : Type 0 where
  pub within : at ≤ length new
  pub below : (k : ℕ) → k < at → get_or new k 0 ≡ f (get_or old k 0) (get_or from k 0)
  pub above : (k : ℕ) → at ≤ k → get_or new k 0 ≡ get_or old k 0

-- the words from `at` on are moved, those below are not
pub record Moved (old new : List ℕ) (at : ℕ) : Type 0 where
  pub within : at ≤ length new
  pub empty : at ≡ 0 → length new ≡ 0
  pub fits : (k : ℕ) → get_or old k 0 < 2 ^ 64
  pub below : (k : ℕ) → k < at → get_or new k 0 ≡ get_or old k 0
  pub above : (k : ℕ) → at ≤ suc k → suc k < length new → get_or new (suc k) 0 ≡ bit_or (get_or old (suc k) 0 * 2 ^ 1 % 2 ^ 64) (get_or old k 0 / 2 ^ 63)
