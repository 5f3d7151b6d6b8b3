-- Streaks of marks by their flags: separators go, quotes and dashes are joined.
use Rattle.std.specs.Prelude.{◌≡◌, ℕ, suc, Bool, true, not, ◌&&◌, ◌||◌, ◌==◌, if◌then◌else◌, List, map, length, slice_index}
use Rattle.std.specs.List.{range_with_len}
use Rattle.lic_columns.specs.Masks.{flag_at, flag_before}

-- a mark is at this offset and at the next, with one same byte of the text
abbrev pub is_same_as_next : List ℕ → List Bool → ℕ → Bool
is_same_as_next text marks k = (flag_at marks k && flag_at marks (suc k)) && (slice_index text k == slice_index text (suc k))

abbrev pub same_as_next : List ℕ → List Bool → List Bool
same_as_next text marks = map (is_same_as_next text marks) (range_with_len 0 (length marks))

-- of three same marks side by side this is the middle one, by which marks are the same as the next
abbrev pub is_middle : List Bool → ℕ → Bool
is_middle same k = flag_before same k && flag_at same k

abbrev pub middles : List Bool → List Bool
middles same = map (is_middle same) (range_with_len 0 (length same))

-- the mark is one of three same marks side by side: it is the middle one, or is beside one
abbrev pub is_in_separator : List Bool → ℕ → Bool
is_in_separator middle k = flag_at middle k || (flag_before middle k || flag_at middle (suc k))

-- the marks that are in no separator
abbrev pub kept_by : List Bool → List Bool → List Bool
kept_by middle marks = map (λ k. flag_at marks k && not (is_in_separator middle k)) (range_with_len 0 (length marks))

-- the marks of a text without its separators: three or more of one same mark
abbrev pub without_separators : List ℕ → List Bool → List Bool
without_separators bytes marks = kept_by (middles (same_as_next bytes marks)) marks

-- the marks that are in no separator, where separators are taken out, and else all
abbrev pub kept_in : Bool → List ℕ → List Bool → List Bool
kept_in separators bytes marks = if separators then without_separators bytes marks else marks

-- the letter of quotes, or of dashes
abbrev pub is_joining : ℕ → Bool
is_joining letter = (letter == 0x27) || (letter == 0x2D)

-- the mark is a quote and so is the one before it, or a dash and so is the one before it, by which marks have the letter of the next
abbrev pub is_joined : List ℕ → List Bool → List Bool → ℕ → Bool
is_joined letters same marks k = (flag_at marks k && flag_before same k) && is_joining (slice_index letters k)

abbrev pub joined_by : List Bool → List ℕ → List Bool → List Bool
joined_by same letters marks = map (is_joined letters same marks) (range_with_len 0 (length marks))

-- which marks are joined to the one before: quotes after quotes, and dashes after dashes
abbrev pub joined_marks : List ℕ → List Bool → List Bool
joined_marks letters marks = joined_by (same_as_next letters marks) letters marks

-- each byte has a letter here, and marks side by side that are one same byte have one letter
pub record HaveLetters (bytes letters : List ℕ) (marks : List Bool) : Type 0 where
  pub long : length letters ≡ length bytes
  pub alike : (k : ℕ) → flag_at marks (suc k) ≡ true → (slice_index bytes k == slice_index bytes (suc k)) ≡ true
      → (slice_index letters k == slice_index letters (suc k)) ≡ true
