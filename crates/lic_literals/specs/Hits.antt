-- Where windows occur, as far as it was noted.
use Rattle.std.specs.Prelude.{◌≡◌, ◌⊎◌, ℕ, ◌≤◌, nat_eq, List, [], Option, Some, map, Contains, slice_index_or}
use Rattle.std.specs.HashMap.{get}
use Rattle.std.specs.Option.{option_map_or}
use Rattle.lic_literals.specs.declared.hits.Hits.{Hits}

-- the offsets that are listed, by slots
abbrev pub lists_of : Hits → List (List ℕ)
lists_of hits = map (λ s. s.offsets.items) hits.occurrences.items

-- the slot of a window, if it occurs somewhere
abbrev pub slot_of : Hits → ℕ → Option ℕ
slot_of hits window = get nat_eq hits.slots window

-- the offsets that are listed for a window
abbrev pub offsets_of : Hits → ℕ → List ℕ
offsets_of hits window = option_map_or (λ slot. slice_index_or (lists_of hits) slot []) (slot_of hits window) []

-- A window has a slot, and the offset is listed there. Where there are too many offsets, a slot is enough.
pub record IsListed (slots : ℕ → Option ℕ) (lists : List (List ℕ)) (count window offset : ℕ) : Type 0 where
  pub slot : ℕ
  pub at : slots window ≡ Some slot
  pub listed : Contains (slice_index_or lists slot []) offset ⊎ (262144 ≤ count)

abbrev pub IsNoted : Hits → ℕ → ℕ → Type 0
IsNoted hits window offset = IsListed (slot_of hits) (lists_of hits) hits.count window offset

-- the offset is noted for the window, and what was noted before still is
pub record NotesOffset (window offset : ℕ) (old new : Hits) : Type 0 where
  pub noted : IsNoted new window offset
  pub kept : (i p : ℕ) → IsNoted old i p → IsNoted new i p
