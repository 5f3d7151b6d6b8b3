-- Streaks of marks: separators become blanks, quotes one quote, dashes one dash.
use Rattle.std.specs.Prelude.{ℕ, Bool, false, ◌&&◌, ◌||◌, ◌==◌, nat_le, if◌then◌else◌, List, [], ◌∷◌, length}
use Rattle.std.specs.List.{flat_map}
use Rattle.lic_kind.specs.Kinds.{is_dash, is_quote}
use Rattle.lic_trim.specs.Texts.{groups}
use Rattle.lic_kind.specs.LineRules.{LineRules}
use Rattle.lic_lines.specs.Cells.{Cell, Blank, Mark, Word}

-- two marks that are the same source character
abbrev pub same_mark : Cell → Cell → Bool
same_mark (Mark s) (Mark t) = s.char == t.char
same_mark _ _ = false

-- two quotes, or two dashes
abbrev pub same_family : Cell → Cell → Bool
same_family (Mark s) (Mark t) = (is_quote s.char && is_quote t.char) || (is_dash s.char && is_dash t.char)
same_family _ _ = false

-- marks that may be joined where one comes before the other, or be of one separator
abbrev pub may_join : ℕ → ℕ → Bool
may_join a b = (a == b) || ((is_quote a && is_quote b) || (is_dash a && is_dash b))

-- a streak of one same mark, which is a blank if it is a separator: three or more of them
abbrev pub without_separator : List Cell → List Cell
without_separator [] = []
without_separator (Blank ∷ streak) = Blank ∷ streak
without_separator (Mark s ∷ streak) = if nat_le 2 (length streak) then Blank ∷ [] else Mark s ∷ streak
without_separator (Word s ∷ streak) = Word s ∷ streak

abbrev pub without_separators : List Cell → List Cell
without_separators cells = flat_map without_separator (groups same_mark cells)

-- where the last of these ends, or this offset where there is none
abbrev pub end_after : ℕ → List Cell → ℕ
end_after at [] = at
end_after at (Blank ∷ cells) = end_after at cells
end_after at (Mark t ∷ cells) = end_after t.end cells
end_after at (Word t ∷ cells) = end_after t.end cells

-- a streak of quotes or of dashes as one, which reaches from the first to the last
abbrev pub joined : List Cell → List Cell
joined [] = []
joined (Blank ∷ streak) = Blank ∷ streak
joined (Mark s ∷ streak) = Mark (record s { end = end_after s.end streak }) ∷ []
joined (Word s ∷ streak) = Word s ∷ streak

abbrev pub with_joined : List Cell → List Cell
with_joined cells = flat_map joined (groups same_family cells)

-- separators first, then quotes and dashes
abbrev pub streaks_joined : LineRules → List Cell → List Cell
streaks_joined rules cells = with_joined (if rules.separators then without_separators cells else cells)
