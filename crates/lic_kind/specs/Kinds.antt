-- The kinds of characters, and the letters that a character denotes.
use Rattle.std.specs.Prelude.{ℕ, Bool, true, false, ◌||◌, ◌==◌, if◌then◌else◌, List, [], ◌∷◌}
use Rattle.std.specs.List.{list_all}
use Rattle.std.specs.Int.{is_in_range}
use Rattle.std.specs.Char.{is_whitespace}
use Rattle.caseless.specs.Caseless.{default_case_fold}
use Rattle.lic_kind.specs.declared.Kind.{Kind}
use Rattle.lic_kind.specs.declared.Kind.TheVariants.{Blank, Dropped, Mark, Word}

-- ---- tables

-- an entry of a table: one character, or all from the first to the last
pub data Entry : Type 0 where
  one : ℕ → Entry
  range : ℕ → ℕ → Entry

-- the entry holds the character
abbrev pub is_entry : Entry → ℕ → Bool
is_entry (one d) c = c == d
is_entry (range first last) c = is_in_range first last c

-- the table lists the character
abbrev pub is_listed : List Entry → ℕ → Bool
is_listed [] c = false
is_listed (entry ∷ table) c = is_entry entry c || is_listed table c

-- a soft hyphen, a zero width space and a byte order mark
abbrev pub dropped : List Entry
dropped = one 0xAD ∷ one 0x200B ∷ one 0xFEFF ∷ []

-- the 32 ASCII punctuation characters
abbrev pub ascii_punctuation : List Entry
ascii_punctuation = range 0x21 0x2F ∷ range 0x3A 0x40 ∷ range 0x5B 0x60 ∷ range 0x7B 0x7E ∷ []

-- hyphens, dashes and minus signs
abbrev pub dashes : List Entry
dashes = one 0x2D ∷ range 0x2010 0x2015 ∷ one 0x2212 ∷ one 0xFE58 ∷ one 0xFE63 ∷ one 0xFF0D ∷ []

-- quotation marks, apostrophes and accents used for them
abbrev pub quotes : List Entry
quotes =
    one 0x22 ∷ one 0x27 ∷ one 0x60 ∷ one 0xB4 ∷ one 0xAB ∷ one 0xBB ∷ range 0x2018 0x201F ∷ one 0x2039 ∷ one 0x203A ∷ []

-- the bullets of lists
abbrev pub bullets : List Entry
bullets =
    one 0xB7 ∷ one 0x2022 ∷ one 0x2023 ∷ one 0x2043 ∷ one 0x25AA ∷ one 0x25AB ∷ one 0x25CB ∷ one 0x25CF ∷ one 0x25E6
    ∷ []

-- box drawing
abbrev pub box_drawing : List Entry
box_drawing = range 0x2500 0x257F ∷ []

-- the marks of no family outside of ASCII
abbrev pub other_marks : List Entry
other_marks =
    one 0xA1 ∷ one 0xA7 ∷ one 0xA9 ∷ one 0xB6 ∷ one 0xBF ∷ one 0x2020 ∷ one 0x2021 ∷ one 0x2026 ∷ []

-- ---- kinds: the character is in the table, or in one of the tables of marks. The long tables unfold only by name, or by `kind_of`.

abbrev pub is_dropped : ℕ → Bool
is_dropped = is_listed dropped

unfoldable pub is_dash : ℕ → Bool
is_dash = is_listed dashes

unfoldable pub is_quote : ℕ → Bool
is_quote = is_listed quotes

unfoldable pub is_bullet : ℕ → Bool
is_bullet = is_listed bullets

unfoldable pub is_box_drawing : ℕ → Bool
is_box_drawing = is_listed box_drawing

unfoldable pub is_other_mark : ℕ → Bool
is_other_mark = is_listed other_marks

abbrev pub is_mark : ℕ → Bool
is_mark c =
    is_listed ascii_punctuation c || is_dash c || is_quote c || is_bullet c || is_box_drawing c || is_other_mark c

-- the kind, decided on the character as it is in the text; unfolding it opens the tables too
unfoldable pub kind_of : ℕ → Kind
unfolding is_dash is_quote is_bullet is_box_drawing is_other_mark
kind_of c =
    if is_dropped c then Dropped
    else (if is_whitespace c then Blank
    else (if is_mark c then Mark
    else Word))

-- ---- the kind is this one

abbrev pub is_word_kind : Kind → Bool
is_word_kind Blank = false
is_word_kind Dropped = false
is_word_kind Mark = false
is_word_kind Word = true

abbrev pub is_mark_kind : Kind → Bool
is_mark_kind Blank = false
is_mark_kind Dropped = false
is_mark_kind Mark = true
is_mark_kind Word = false

-- ---- letters

-- the letter of a mark: one for all dashes, one for all quotes, and else the mark itself
abbrev pub letter_of : ℕ → ℕ
letter_of c = if is_dash c then 0x2D else (if is_quote c then 0x27 else c)

-- the folding of a word character, or itself where the folding holds a character of another kind
abbrev pub folded_word : ℕ → List ℕ → List ℕ
folded_word c folding = if list_all (λ d. is_word_kind (kind_of d)) folding then folding else c ∷ []

-- the letters of a character of this kind
abbrev pub letters : Kind → ℕ → List ℕ
letters Blank c = 0x20 ∷ []
letters Dropped c = []
letters Mark c = letter_of c ∷ []
letters Word c = folded_word c (default_case_fold (c ∷ []))

-- the letters that a character denotes
unfoldable pub spell : ℕ → List ℕ
spell c = letters (kind_of c) c
