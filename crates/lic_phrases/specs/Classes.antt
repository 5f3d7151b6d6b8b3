-- Classes of equivalent phrases.
use Rattle.std.specs.Prelude.{◌≡◌, ℕ, ◌<◌, ◌≤◌, ◌==◌, if◌then◌else◌, min, max, List, [], ◌∷◌, length, map, slice_index, slice_index_or}
use Rattle.std.specs.List.{Contains}

-- some line has both
abbrev pub OnOneLine : {A : Type 0} → List (List A) → A → A → Type 0
OnOneLine {A} lines p q = (line : List A) × Contains lines line × Contains line p × Contains line q

-- from p through these to q, each step on one line
abbrev pub Leads : {A : Type 0} → List (List A) → A → List A → A → Type 0
Leads lines p [] q = p ≡ q
Leads lines p (x ∷ xs) q = OnOneLine lines p x × Leads lines x xs q

-- a chain of lines, each sharing a phrase with the next, joins the two
abbrev pub Equivalent : {A : Type 0} → List (List A) → A → A → Type 0
Equivalent {A} lines p q = (between : List A) × Leads lines p between q

-- the first element that has the property
pub record IsFirst {A : Type 0} (xs : List A) (P : A → Type 0) (x : A) : Type 0 where
  pub at : ℕ
  pub within : at < length xs
  pub is : slice_index_or xs at x ≡ x
  pub has : P x
  pub none : (k : ℕ) → k < at → ¬ (P (slice_index_or xs k x))

-- each phrase's class: the least phrase of the class, by number
pub record AreRepresentatives (lines : List (List ℕ)) (heads : List ℕ) : Type 0 where
  pub numbered : (line : List ℕ) (i : ℕ) → Contains lines line → Contains line i → i < length heads
  pub same : (i j : ℕ) → i < length heads → j < length heads → slice_index heads i ≡ slice_index heads j
      → Equivalent lines i j
  pub back : (i j : ℕ) → OnOneLine lines i j → slice_index heads i ≡ slice_index heads j
  pub low : (i : ℕ) → i < length heads → slice_index heads i ≤ i
  pub own : (i : ℕ) → i < length heads → slice_index heads (slice_index heads i) ≡ slice_index heads i

-- one number in place of another
abbrev pub replaced : ℕ → ℕ → ℕ → ℕ
replaced old new x = if x == old then new else x

-- the classes of a and b are one
abbrev pub classes_joined : List ℕ → ℕ → ℕ → List ℕ
classes_joined heads a b =
    let p = slice_index heads a in
    let q = slice_index heads b in
    map (replaced (max p q) (min p q)) heads
