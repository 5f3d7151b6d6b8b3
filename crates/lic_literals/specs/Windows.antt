-- Windows of literals, and what is noted of literals by them.
use Rattle.std.specs.Prelude.{◌≡◌, ◌⊎◌, ℕ, ◌+◌, List, Option, Some, None, length, slice_range}
use Rattle.lic_literals.specs.Ends.{EndsAt}
use Rattle.lic_literals.specs.Hits.{IsNoted}
use Rattle.lic_literals.specs.Tables.{AllBelow, HasNone, HasWindow}
use Rattle.lic_literals.specs.declared.hits.Hits.{Hits}
use Rattle.lic_literals.specs.declared.tables.table.Table.{Table}
use Rattle.lic_literals.specs.declared.tables.Key.{Key}
use Rattle.lic_literals.specs.declared.tables.Tables.{Tables}

module _ {LENGTH GRAM STEP : ℕ} where
  -- the window begins where the key says, and has the key's number
  pub record IsWindowOf (table : Table LENGTH GRAM STEP) (literal : List ℕ) (key : Key) : Type 0 where
    pub start : ℕ
    pub end : start + key.to_end ≡ length literal
    pub window : HasWindow table (slice_range literal start (start + LENGTH)) key.window

  -- The table has the window of the literal. What it had before it still has.
  pub record AddsKey (literal : List ℕ) (number : ℕ) (key : Key) (old new : Table LENGTH GRAM STEP) : Type 0 where
    pub added : IsWindowOf new literal key
    pub kept : (l : List ℕ) (k : Key) → IsWindowOf old l k → IsWindowOf new l k
    pub below : AllBelow old number → AllBelow new (number + 1)

-- one of the tables has the window of the literal, if this has a key
abbrev pub HasKey : Tables → List ℕ → Option Key → Type 0
HasKey tables literal None = Unit {0}
HasKey tables literal (Some key) =
    IsWindowOf tables.long literal key ⊎ (IsWindowOf tables.middle literal key ⊎ IsWindowOf tables.short literal key)

-- no window has a number
pub record HaveNone (tables : Tables) : Type 0 where
  pub long : HasNone tables.long
  pub middle : HasNone tables.middle
  pub short : HasNone tables.short

-- each number is below n
pub record AreBelow (tables : Tables) (n : ℕ) : Type 0 where
  pub long : AllBelow tables.long n
  pub middle : AllBelow tables.middle n
  pub short : AllBelow tables.short n

-- The tables have the window of the literal, if this has a key. What they had before they still have.
pub record AddsLiteral (literal : List ℕ) (number : ℕ) (key : Option Key) (old new : Tables) : Type 0 where
  pub added : HasKey new literal key
  pub kept : (l : List ℕ) (k : Option Key) → HasKey old l k → HasKey new l k
  pub below : AreBelow old number → AreBelow new (number + 1)

-- for each offset at which a literal with a key ends, its window is noted
pub record NotesKeys (tables : Tables) (bytes : List ℕ) (old new : Hits) : Type 0 where
  pub found : (literal : List ℕ) (key : Key) (e : ℕ) → HasKey tables literal (Some key) → EndsAt bytes literal e →
      (p : ℕ) × (p + key.to_end ≡ e) × IsNoted new key.window p
