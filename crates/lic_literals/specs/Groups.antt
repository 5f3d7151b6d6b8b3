-- Literals by their windows.
use Rattle.std.specs.Prelude.{◌≡◌, ◌⊎◌, ℕ, List, [], Option, Some, None, map, Contains, slice_index_or}
use Rattle.std.specs.List.{slice_get}
use Rattle.lic_literals.specs.declared.groups.Groups.{Groups}
use Rattle.lic_literals.specs.declared.hits.Hits.{Hits}
use Rattle.lic_literals.specs.declared.tables.Key.{Key}

-- the literals that have a window
abbrev pub sharing_of : Groups → ℕ → List ℕ
sharing_of groups window = slice_index_or (map (λ list. list.items) groups.sharing.items) window []

-- each literal is in the group of its window, or in that of those without one
pub record AreGroupsOf (keys : List (Option Key)) (groups : Groups) : Type 0 where
  pub short : (k : ℕ) → slice_get keys k ≡ Some None → Contains groups.short.items k
  pub sharing : (k : ℕ) (key : Key) → slice_get keys k ≡ Some (Some key) → Contains (sharing_of groups key.window) k

-- the numbers of the windows that occur somewhere
abbrev pub windows_of : Hits → List ℕ
windows_of hits = map (λ s. s.window) hits.occurrences.items

-- an occurrence of the literal cannot be ruled out: it has no window, or one that occurs somewhere
abbrev pub IsCandidate : Groups → Hits → ℕ → Type 0
IsCandidate groups hits k =
    Contains groups.short.items k ⊎ ((window : ℕ) × Contains (windows_of hits) window × Contains (sharing_of groups window) k)
