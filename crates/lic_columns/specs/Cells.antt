-- Cells: what is at each offset of a text, and the tokens that they make.
use Rattle.std.specs.Prelude.{◌≡◌, ℕ, suc, Bool, true, false, not, ◌&&◌, List, [], ◌∷◌, map, length}
use Rattle.std.specs.List.{range_with_len}
use Rattle.lic_columns.specs.Masks.{flag_at}

-- a blank; a byte of a word; a mark; a mark that is one with the mark before it
pub data Cell : Type 0 where
  Blank : Cell
  Word : Cell
  Mark : Cell
  Joined : Cell

-- the cell of an offset by its flags
abbrev pub cell_of : Bool → Bool → Bool → Cell
cell_of true mark joined = Word
cell_of false false joined = Blank
cell_of false true false = Mark
cell_of false true true = Joined

-- the cells of a text, by its flags of word, of mark and of joined marks
abbrev pub cells_of : List Bool → List Bool → List Bool → List Cell
cells_of word mark joined = map (λ k. cell_of (flag_at word k) (flag_at mark k) (flag_at joined k)) (range_with_len 0 (length word))

-- ---- tokens

abbrev pub is_blank : Cell → Bool
is_blank Blank = true
is_blank Word = false
is_blank Mark = false
is_blank Joined = false

abbrev pub is_word_cell : Cell → Bool
is_word_cell Blank = false
is_word_cell Word = true
is_word_cell Mark = false
is_word_cell Joined = false

abbrev pub is_mark_cell : Cell → Bool
is_mark_cell Blank = false
is_mark_cell Word = false
is_mark_cell Mark = true
is_mark_cell Joined = true

-- whether the second cell is of the token of the first, which comes before it
abbrev pub continues : Cell → Cell → Bool
continues before Blank = false
continues before Word = is_word_cell before
continues before Mark = false
continues before Joined = is_mark_cell before

-- from the offset where a token begins to the one after it
pub record Span : Type 0 where
  pub start : ℕ
  pub end : ℕ

-- the first of these tokens begins here
abbrev pub from_here : ℕ → List Span → List Span
from_here at [] = []
from_here at (span ∷ spans) = record span { start = at } ∷ spans

-- the next cell
abbrev pub next_cell : List Cell → Cell
next_cell [] = Blank
next_cell (c ∷ cells) = c

-- a cell before tokens: it is of the first of them, or one by itself
abbrev pub with_cell : ℕ → Bool → Bool → List Span → List Span
with_cell at true more spans = spans
with_cell at false true spans = from_here at spans
with_cell at false false spans = record { start = at; end = suc at } ∷ spans

-- the tokens of these cells, of which the first occurs at this offset: each longest streak of cells of which each continues with the one before it
abbrev pub spans : ℕ → List Cell → List Span
spans at [] = []
spans at (c ∷ cells) = with_cell at (is_blank c) (continues c (next_cell cells)) (spans (suc at) cells)

abbrev pub starts_of : List Span → List ℕ
starts_of = map (λ s. s.start)

abbrev pub ends_of : List Span → List ℕ
ends_of = map (λ s. s.end)

-- ---- where tokens begin and end

abbrev pub is_first : Cell → Cell → Bool
is_first before c = not (is_blank c) && not (continues before c)

abbrev pub is_last : Cell → Cell → Bool
is_last c next = not (is_blank c) && not (continues c next)

-- which cells are the first of a token, where this cell comes before them
abbrev pub firsts : Cell → List Cell → List Bool
firsts before [] = []
firsts before (c ∷ cells) = is_first before c ∷ firsts c cells

-- which cells are the last of a token
abbrev pub lasts : List Cell → List Bool
lasts [] = []
lasts (c ∷ cells) = is_last c (next_cell cells) ∷ lasts cells

-- ---- what the flags of a text are to each other

-- no byte is both, and a joined mark is a mark that comes right after one
pub record AreCells (word mark joined : List Bool) : Type 0 where
  pub within : length mark ≡ length word
  pub apart : (k : ℕ) → (flag_at word k && flag_at mark k) ≡ false
  pub none_first : flag_at joined 0 ≡ false
  pub is_mark : (k : ℕ) → flag_at joined k ≡ true → flag_at mark k ≡ true
  pub after_mark : (k : ℕ) → flag_at joined (suc k) ≡ true → flag_at mark k ≡ true
