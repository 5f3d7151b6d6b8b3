-- What the line rules take away: bytes that count as blanks.
use Rattle.std.specs.Prelude.{◌≡◌, ℕ, ◌+◌, ◌-◌, ◌≤◌, true, false, List, [], ◌∷◌, length, map, drop, slice_index}
use Rattle.std.specs.Char.{is_whitespace}
use Rattle.lic_kind.specs.LineRules.{LineRules}
use Rattle.lic_trim.specs.Lines.{cut_of, whole_line}
use Rattle.lic_trim.specs.Texts.{cut_after}
use Rattle.lic_trim.specs.declared.cut.LineCut.{LineCut}
use Rattle.lic_letters.specs.Bytes.{is_feed}
use Rattle.lic_columns.specs.Known.{Known, known_of, blanked, is_dark}

-- without lead, item and tail of a line from this offset to that
abbrev pub edges_blanked : LineCut → ℕ → ℕ → Known → Known
edges_blanked cut at end known = blanked (end - cut.tail) end (blanked at (at + (cut.lead + cut.item)) known)

-- the lines of a text by its bytes: each line feed ends one, and belongs to it
abbrev pub byte_lines : List ℕ → List (List ℕ)
byte_lines = cut_after is_feed

-- without lead, item and tail of each of these lines, of which the first occurs at this offset
abbrev pub lines_blanked : LineRules → ℕ → List (List ℕ) → Known → Known
lines_blanked rules at [] known = known
lines_blanked rules at (line ∷ lines) known =
    lines_blanked rules (at + length line) lines (edges_blanked (cut_of rules whole_line line) at (at + length line) known)

-- the white space of a line that begins at this offset counts as blanks
pub record AreBlank (line : List ℕ) (at : ℕ) (known : Known) : Type 0 where
  pub spaces : (i : ℕ) → is_whitespace (slice_index line i) ≡ true → is_dark known (at + i) ≡ false

-- the edges of the lines before this offset are cleared, and what clears those after it clears all
pub record AreCleared (rules : LineRules) (text : List ℕ) (at : ℕ) (known : Known) : Type 0 where
  pub within : at ≤ length text
  pub feed : known.feed ≡ map is_feed text
  pub word : length known.word ≡ length text
  pub mark : length known.mark ≡ length text
  pub blank : (k : ℕ) → is_whitespace (slice_index text k) ≡ true → is_dark known k ≡ false
  pub left : lines_blanked rules at (byte_lines (drop at text)) known ≡ lines_blanked rules 0 (byte_lines text) (known_of text)
