-- What a byte of a UTF-8 text says by itself.
use Rattle.std.specs.Prelude.{ℕ, Bool, not, ◌&&◌, ◌||◌, ◌==◌, nat_lt, if◌then◌else◌, slice_index}
use Rattle.lic_kind.specs.Kinds.{kind_of, is_word_kind, is_mark_kind, spell}

-- a part of a character beyond ASCII
abbrev pub is_high : ℕ → Bool
is_high b = not (nat_lt b 128)

-- a word character of ASCII, or a part of a character beyond ASCII
abbrev pub is_word : ℕ → Bool
is_word b = is_high b || is_word_kind (kind_of b)

-- a mark of ASCII
abbrev pub is_mark : ℕ → Bool
is_mark b = nat_lt b 128 && is_mark_kind (kind_of b)

-- a line feed, U+000A
abbrev pub is_feed : ℕ → Bool
is_feed b = b == 10

-- a word character or a mark of ASCII
abbrev pub has_letter : ℕ → Bool
has_letter b = nat_lt b 128 && (is_word_kind (kind_of b) || is_mark_kind (kind_of b))

-- the letter of a byte: what its character is spelled by; white space, and a part of a character beyond ASCII, is its own
abbrev pub letter : ℕ → ℕ
letter b = if has_letter b then slice_index (spell b) 0 else b
