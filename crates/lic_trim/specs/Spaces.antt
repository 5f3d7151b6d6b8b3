-- Lines of which white space alone is taken.
use Rattle.std.specs.Prelude.{◌≡◌, ℕ, ◌+◌, ◌-◌, ◌<◌, ◌≤◌, true, false, List, length, slice_index}
use Rattle.std.specs.Char.{is_whitespace}
use Rattle.lic_trim.specs.declared.cut.LineCut.{LineCut}

-- all that this cut takes of a line is white space
pub record TakesSpaces (cut : LineCut) (line : List ℕ) : Type 0 where
  pub within : cut.lead + cut.item + cut.tail ≤ length line
  pub lead : (i : ℕ) → i < cut.lead → is_whitespace (slice_index line i) ≡ true
  pub no_item : cut.item ≡ 0
  pub tail : (i : ℕ) → length line - cut.tail ≤ i → i < length line → is_whitespace (slice_index line i) ≡ true

-- a way begins with this many white space characters and no more
pub record AreSpaces (way : List ℕ) (count : ℕ) : Type 0 where
  pub within : count ≤ length way
  pub all : (i : ℕ) → i < count → is_whitespace (slice_index way i) ≡ true
  pub stop : count < length way → is_whitespace (slice_index way count) ≡ false

-- a cut of a line begins and ends with this much white space
pub record HasSpaces (cut : LineCut) (front end : ℕ) (line : List ℕ) : Type 0 where
  pub in_lead : front ≤ cut.lead
  pub lead : (i : ℕ) → i < front → is_whitespace (slice_index line i) ≡ true
  pub in_tail : end ≤ cut.tail
  pub tail : (i : ℕ) → length line - end ≤ i → i < length line → is_whitespace (slice_index line i) ≡ true
