-- The tokens of plain lines by columns.
use Rattle.std.specs.Prelude.{◌≡◌, ℕ, ◌+◌, ◌-◌, ◌<◌, ◌≤◌, true, List, length, slice_index, chars, IsUtf8}
use Rattle.std.specs.Str.{IsCharBoundary}
use Rattle.std.specs.List.{AllByRecursion}
use Rattle.lic_kind.specs.declared.Kind.TheVariants.{Word}
use Rattle.lic_kind.specs.Kinds.{kind_of}
use Rattle.lic_kind.specs.LineRules.{LineRules}
use Rattle.lic_trim.specs.Sources.{placed}
use Rattle.lic_lines.specs.Cells.{cells_of}
use Rattle.lic_lines.specs.Streaks.{streaks_joined}
use Rattle.lic_lines.specs.Tokens.{first_tokens}
pub use Rattle.lic_letters.specs.PlainLines.{ArePlainLines}
use Rattle.lic_columns.specs.SpanTokens.{span_tokens, spans_by}
use Rattle.lic_columns.specs.TokenOffsets.{TokenOffsets}

-- a character that is of words if it is beyond ASCII
abbrev pub IsOfWord : ℕ → Type 0
IsOfWord c = 128 ≤ c → kind_of c ≡ Word

-- what is beyond ASCII in this text is of words
abbrev pub HasWords : List ℕ → Type 0
HasWords text = AllByRecursion IsOfWord (chars text)

-- the first tokens of the lines of a text that begins at this offset, by where they begin and end in its letters
pub record HaveFirstTokens (rules : LineRules) (at : ℕ) (text : List ℕ) (offsets : TokenOffsets) : Type 0 where
  pub utf8 : IsUtf8 offsets.letters
  pub words : HasWords offsets.letters
  pub long : length offsets.letters ≡ length text
  pub paired : length offsets.ends ≡ length offsets.starts
  pub from : (i : ℕ) → i < length offsets.starts → at ≤ slice_index offsets.starts i
  pub some : (i : ℕ) → i < length offsets.starts → slice_index offsets.starts i < slice_index offsets.ends i
  pub to : (i : ℕ) → i < length offsets.starts → slice_index offsets.ends i ≤ at + length offsets.letters
  pub begin : (i : ℕ) → i < length offsets.starts → IsCharBoundary offsets.letters (slice_index offsets.starts i - at)
  pub end : (i : ℕ) → i < length offsets.starts → IsCharBoundary offsets.letters (slice_index offsets.ends i - at)
  pub tokens : span_tokens true at at offsets.letters (spans_by offsets.starts offsets.ends)
      ≡ first_tokens (streaks_joined rules (cells_of rules (placed at (chars text))))
