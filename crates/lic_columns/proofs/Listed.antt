-- The offsets of tokens that are listed, column by column.
use Rattle.std.proofs.Common.{◌≡◌, ℕ, ◌+◌, ◌*◌, ◌<◌, ◌≤◌, ◌++◌, ◌∷◌, Bool, false, List, length, take, ap, ◌∙◌, arith}
use Rattle.std.proofs.lemmas.List.{take_all}
use Rattle.lic_columns.specs.Cells.{Cell, AreCells, cells_of, firsts, lasts, spans, starts_of, ends_of}
use Rattle.lic_columns.specs.Cells.{Blank}
use Rattle.lic_columns.specs.Carried.{AreCarried}
use Rattle.lic_columns.specs.Flags.{bits_of}
use Rattle.lic_columns.specs.Marks.{joined_marks, kept_in}
use Rattle.lic_columns.specs.Masks.{IsColumn, EndsBefore}
use Rattle.lic_columns.specs.Offsets.{offsets}
use Rattle.lic_columns.specs.declared.marks.Carried.{Carried}
use Rattle.lic_columns.proofs.CellLemmas.{length-cells, length-firsts, length-lasts, starts_are, ends_are}
use Rattle.lic_columns.proofs.OffsetLemmas.{column_offsets}

-- the cells of a text with these marks
abbrev pub cells_in : Bool → List ℕ → List ℕ → List Bool → List Bool → List Cell
cells_in separators bytes letters words marks = cells_of words (kept_in separators bytes marks) (joined_marks letters (kept_in separators bytes marks))

-- the tokens of the columns before this one are listed; what is carried on is of this column and the one before it
pub record AreListed (separators : Bool) (at : ℕ) (bytes letters : List ℕ) (words marks : List Bool) (k : ℕ) (s e : List ℕ) (c : Carried) (m b h : ℕ)
    : Type 0 where
  pub cells : AreCells words (kept_in separators bytes marks) (joined_marks letters (kept_in separators bytes marks))
  pub starts : s ≡ offsets at (take (k * 64) (firsts Blank (cells_in separators bytes letters words marks)))
  pub ends : e ≡ offsets at (take (k * 64) (false ∷ lasts (cells_in separators bytes letters words marks)))
  pub carried : AreCarried separators bytes letters marks k c
  pub mark : IsColumn m marks k
  pub before : EndsBefore b words k
  pub kept : EndsBefore h (kept_in separators bytes marks) k

-- the offsets of one column more
pub one_column_more : (new old : List ℕ) (at k here mask : ℕ) (flags : List Bool) → old ≡ offsets at (take (k * 64) flags) → here ≡ at + k * 64
    → new ≡ old ++ offsets here (bits_of 64 mask) → k * 64 ≤ length flags → IsColumn mask flags k → new ≡ offsets at (take ((k + 1) * 64) flags)
one_column_more new old at k here mask flags listed offset added inside is =
    added ∙ ap (λ l. l ++ offsets here (bits_of 64 mask)) listed ∙ ap (λ n. offsets at (take (k * 64) flags) ++ offsets n (bits_of 64 mask)) offset
    ∙ column_offsets flags k mask inside is.bit at

module _ (at : ℕ) (words kept joined : List Bool) (are : AreCells words kept joined) where
  pub starts_listed : (n : ℕ) → length words ≤ n → offsets at (take n (firsts Blank (cells_of words kept joined))) ≡ starts_of (spans at (cells_of words kept joined))
  starts_listed n all =
      ap (offsets at) (take_all n (firsts Blank (cells_of words kept joined)) (omega (arith, all, length-firsts Blank (cells_of words kept joined), length-cells words kept joined are)))
      ∙ starts_are at (cells_of words kept joined)

  pub ends_listed : (n : ℕ) → length words < n → offsets at (take n (false ∷ lasts (cells_of words kept joined))) ≡ ends_of (spans at (cells_of words kept joined))
  ends_listed n all =
      ap (offsets at) (take_all n (false ∷ lasts (cells_of words kept joined)) (omega (arith, all, length-lasts (cells_of words kept joined), length-cells words kept joined are)))
      ∙ ends_are at (cells_of words kept joined)
