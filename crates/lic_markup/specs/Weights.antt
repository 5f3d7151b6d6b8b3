-- What a pattern weighs.
use Rattle.std.specs.Prelude.{ℕ, ◌+◌, ◌*◌, max, Option, Some, None}
use Rattle.lic_ere.specs.Trees.{Tree, Trees, empty, char, any, set, cat, alt, repeat, no_tree, one_more}

-- how often the weight of its body a repetition weighs
abbrev pub times : ℕ → Option ℕ → ℕ
times min None = max min 1
times min (Some n) = n

abbrev mutual
  -- each letter, `.` and bracket weighs 1; sequences and alternatives weigh the sum
  pub weight : Tree → ℕ
  weight empty = 0
  weight (char c) = 1
  weight any = 1
  weight (set brackets) = 1
  weight (cat ts) = weights ts
  weight (alt ts) = weights ts
  weight (repeat t min max) = weight t * times min max

  pub weights : Trees → ℕ
  weights no_tree = 0
  weights (one_more t ts) = weight t + weights ts
