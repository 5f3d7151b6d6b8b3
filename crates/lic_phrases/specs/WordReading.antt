-- What the reader of a word list keeps.
use Rattle.std.specs.Prelude.{◌≡◌, ℕ, ◌<◌, List, ◌++◌, length, map, slice_index, slice_index_or}
use Rattle.std.specs.List.{Contains}
use Rattle.lic_phrases.specs.Classes.{AreRepresentatives}
use Rattle.lic_phrases.specs.WordLists.{in_order}

-- numbers below n, each of which first comes after all lesser ones
pub record AreInOrder (flat : List ℕ) (n : ℕ) : Type 0 where
  pub all : (m : ℕ) → m < n → Contains flat m
  pub order : (k : ℕ) → k < length flat → (m : ℕ) → m < slice_index flat k
      → (j : ℕ) × (j < k) × (slice_index flat j ≡ m)
  pub below : (k : ℕ) → k < length flat → slice_index flat k < n

-- the whole lines and the front of one more are read: each phrase has its number, and each number its class; the classes
-- are those of the whole lines
pub record HasRead {A : Type 0} (d : A) (lines : List (List A)) (line : List A) (keys : List A)
    (heads line_numbers : List ℕ) : Type 0 where
  pub numbers : List (List ℕ)
  pub named : map (map (λ i. slice_index_or keys i d)) numbers ≡ lines
  pub line_named : map (λ i. slice_index_or keys i d) line_numbers ≡ line
  pub classes : AreRepresentatives numbers heads
  pub as_many : length heads ≡ length keys
  pub distinct : (i j : ℕ) → i < length keys → j < length keys → slice_index_or keys i d ≡ slice_index_or keys j d
      → i ≡ j
  pub ordered : AreInOrder (in_order numbers ++ line_numbers) (length keys)
