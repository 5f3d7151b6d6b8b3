-- The first tokens that are noted.
use Rattle.std.specs.Prelude.{ℕ, ◌-◌, ◌*◌, ◌≤◌, List, [], ◌∷◌, length, take, drop, reverse, nat_le, if◌then◌else◌}
use Rattle.lic_find.specs.Firsts.{NotedFirst, noted_at}
use Rattle.lic_find.specs.declared.starts.Entry.{Entry}
use Rattle.lic_find.specs.declared.starts.Starts.{Starts}

-- each with its numbers, which are at the end of the list; those of the entries after it come before them
abbrev pub noted_in : List Entry → List ℕ → List NotedFirst
noted_in [] numbers = []
noted_in (entry ∷ more) numbers =
    noted_at entry.first (drop (length numbers - entry.count) numbers)
    ∷ noted_in more (take (length numbers - entry.count) numbers)

-- the first tokens that are left, in rising order
unfoldable pub starts_in : Starts → List NotedFirst
starts_in starts = noted_in (reverse starts.entries.items) starts.numbers.items

-- at most four numbers, or none
abbrev pub few_of : List ℕ → List ℕ
few_of numbers = if nat_le (length numbers) 4 then numbers else []

-- first tokens of at most that many tokens, with four numbers for each on the average at most
pub record HasAtMost (starts : Starts) (tokens : ℕ) : Type 0 where
  pub firsts : length starts.entries.items ≤ tokens
  pub numbers : length starts.numbers.items ≤ 4 * length starts.entries.items
