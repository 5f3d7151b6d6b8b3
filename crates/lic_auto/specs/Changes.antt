-- What becomes of machines, one for each template, that change one after another.
use Rattle.std.specs.Prelude.{◌≡◌, ℕ, ◌<◌, ◌≤◌, List, length, Some}
use Rattle.std.specs.List.{slice_get}

-- the machines before an index have changed so, and the others are as they were
pub record AreChangedBefore {X : Type 0} (changes : X → X → Type 0) (end : ℕ) (old new : List X) : Type 0 where
  pub count : length new ≡ length old
  pub before : (k : ℕ) (a b : X) → k < end → slice_get old k ≡ Some a → slice_get new k ≡ Some b → changes a b
  pub others : (k : ℕ) → end ≤ k → slice_get new k ≡ slice_get old k

-- all have changed so
abbrev pub AreChanged : {X : Type 0} → (X → X → Type 0) → List X → List X → Type 0
AreChanged changes old new = AreChangedBefore changes (length old) old new
