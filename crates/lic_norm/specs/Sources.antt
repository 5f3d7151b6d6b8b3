-- The source characters of an input of any bytes.
use Rattle.std.specs.Prelude.{◌≡◌, ℕ, zero, suc, ◌+◌, ◌-◌, List, [], ◌∷◌, ◌++◌, take, Option, find, unwrap_or, slice_index}
use Rattle.std.specs.Option.{option_map_or}
use Rattle.std.specs.Char.{len_utf8, encode_utf8, IsScalar}
use Rattle.std.specs.Str.{is_utf8, chars, StartsWithNoChar}
use Rattle.lic_trim.specs.declared.source.SourceChar.{SourceChar}

-- how many bytes the character takes that begins these bytes, if one does (Unicode, table 3-7)
abbrev pub width_of_first : List ℕ → Option ℕ
width_of_first bytes = find (λ n. is_utf8 (take n bytes)) (1 ∷ 2 ∷ 3 ∷ 4 ∷ [])

-- how many bytes the first source character takes: those of the character that begins there, else one
abbrev pub first_width : List ℕ → ℕ
first_width bytes = unwrap_or (width_of_first bytes) 1

-- the first source character: the character that begins there, else U+FFFD
abbrev pub first_char : List ℕ → ℕ
first_char bytes = option_map_or (λ n. slice_index (chars (take n bytes)) 0) (width_of_first bytes) 0xFFFD

-- the source characters of bytes that begin at this byte of the input, where the first n lie in a character that begins before them
abbrev pub source_after : ℕ → ℕ → List ℕ → List SourceChar
source_after n at [] = []
source_after (suc n) at (byte ∷ bytes) = source_after n (at + 1) bytes
source_after zero at (byte ∷ bytes) =
    let width = first_width (byte ∷ bytes) in
    record { char = first_char (byte ∷ bytes); start = at; end = at + width } ∷ source_after (width - 1) (at + 1) bytes

-- The source characters of bytes that begin at this byte of the input: its characters in UTF-8, and U+FFFD for each byte that lies in no
-- character begun before it, and at which none begins.
unfoldable pub source_of : ℕ → List ℕ → List SourceChar
source_of at bytes = source_after 0 at bytes

-- These are the source characters of bytes that begin at this byte of the input, read from the start: a character where one begins, and
-- U+FFFD for one byte where none begins.
pub data AreSourceChars : ℕ → List ℕ → List SourceChar → Type 0 where
  no_bytes : (at : ℕ) → AreSourceChars at [] []
  a_char : (at : ℕ) (bytes : List ℕ) (c : ℕ) (rest : List ℕ) (cs : List SourceChar) → IsScalar c → bytes ≡ encode_utf8 c ++ rest
      → AreSourceChars (at + len_utf8 c) rest cs → AreSourceChars at bytes ((record { char = c; start = at; end = at + len_utf8 c }) ∷ cs)
  a_byte : (at b : ℕ) (rest : List ℕ) (cs : List SourceChar) → StartsWithNoChar (b ∷ rest)
      → AreSourceChars (at + 1) rest cs → AreSourceChars at (b ∷ rest) ((record { char = 0xFFFD; start = at; end = at + 1 }) ∷ cs)
