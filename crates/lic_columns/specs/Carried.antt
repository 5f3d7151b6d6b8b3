-- What is carried from column to column where marks are joined.
use Rattle.std.specs.Prelude.{◌≡◌, ℕ, ◌*◌, Bool, ◌&&◌, List}
use Rattle.lic_columns.specs.Masks.{EndsBefore, flag_before}
use Rattle.lic_columns.specs.Marks.{kept_in, middles, same_as_next}
use Rattle.lic_columns.specs.declared.marks.Carried.{Carried}
use Rattle.lic_trim.specs.PieceLengths.{has_bit}

-- what is carried to column k of these marks, from the column before
pub record AreCarried (separators : Bool) (bytes letters : List ℕ) (marks : List Bool) (k : ℕ) (c : Carried) : Type 0 where
  pub same : EndsBefore c.pairs.same (same_as_next bytes marks) k
  pub alike : EndsBefore c.pairs.alike (same_as_next letters marks) k
  pub middle : EndsBefore c.middle (middles (same_as_next bytes marks)) k
  pub close : has_bit c.close 63
      ≡ (flag_before (same_as_next letters marks) (k * 64) && flag_before (kept_in separators bytes marks) (k * 64))
