-- Which windows a table has, and what is noted of them.
use Rattle.std.specs.Prelude.{◌≡◌, ℕ, ◌+◌, ◌<◌, List, Option, Some, None, length}
use Rattle.std.specs.HashMap.{get}
use Rattle.std.specs.Str.{bytes_eq}
use Rattle.memchr.specs.Find.{OccursAt}
use Rattle.lic_literals.specs.Hashes.{hash_of, gram_flag, start_flag}
use Rattle.lic_literals.specs.Hits.{IsNoted}
use Rattle.lic_literals.specs.Flags.{Has}
use Rattle.lic_literals.specs.Sizes.{gram_at}
use Rattle.lic_literals.specs.declared.hits.Hits.{Hits}
use Rattle.lic_literals.specs.declared.tables.table.Table.{Table}

module _ {LENGTH GRAM STEP : ℕ} where
  -- the number of a window
  abbrev pub number_of : Table LENGTH GRAM STEP → List ℕ → Option ℕ
  number_of table window = get bytes_eq table.numbers window

  -- no window has a number
  abbrev pub HasNone : Table LENGTH GRAM STEP → Type 0
  HasNone table = (w : List ℕ) → number_of table w ≡ None

  -- each number is below n
  abbrev pub AllBelow : Table LENGTH GRAM STEP → ℕ → Type 0
  AllBelow table n = (w : List ℕ) (i : ℕ) → number_of table w ≡ Some i → i < n

  -- the gram is flagged, also together with where it begins in a window
  pub record IsFlagged (table : Table LENGTH GRAM STEP) (gram : List ℕ) (start : ℕ) : Type 0 where
    pub anywhere : Has table.grams (gram_flag (hash_of gram))
    pub there : Has table.starts (start_flag (hash_of gram) start)

  -- the window has this number, and its first grams are flagged
  pub record HasWindow (table : Table LENGTH GRAM STEP) (window : List ℕ) (number : ℕ) : Type 0 where
    pub size : length window ≡ LENGTH
    pub numbered : number_of table window ≡ Some number
    pub flagged : (start : ℕ) → start < STEP → IsFlagged table (gram_at GRAM window start) start

  -- the grams of a window are flagged, and what was there before still is
  pub record FlagsWindow (window : List ℕ) (old new : Table LENGTH GRAM STEP) : Type 0 where
    pub flagged : (start : ℕ) → start < STEP → IsFlagged new (gram_at GRAM window start) start
    pub kept : (gram : List ℕ) (start : ℕ) → IsFlagged old gram start → IsFlagged new gram start
    pub numbers : (w : List ℕ) → number_of new w ≡ number_of old w

  -- the window has the number that is answered, which is not above the one that was given
  pub record AddsWindow (window : List ℕ) (given answer : ℕ) (old new : Table LENGTH GRAM STEP) : Type 0 where
    pub added : HasWindow new window answer
    pub kept : (w : List ℕ) (i : ℕ) → HasWindow old w i → HasWindow new w i
    pub below : AllBelow old given → AllBelow new (given + 1)

  -- each offset of this kind at which a window occurs is noted, and what was noted before still is
  pub record NotesWhere (table : Table LENGTH GRAM STEP) (bytes : List ℕ) (kind : ℕ → Type 0) (old new : Hits) : Type 0 where
    pub found : (w : List ℕ) (i p : ℕ) → HasWindow table w i → OccursAt bytes w p → kind p → IsNoted new i p
    pub kept : (i p : ℕ) → IsNoted old i p → IsNoted new i p
