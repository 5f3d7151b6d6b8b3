-- Source characters: characters with the bytes that they were read from.
use Rattle.std.specs.Prelude.{ℕ, ◌+◌, ◌==◌, not, List, [], ◌∷◌, map, filter, chars}
use Rattle.std.specs.Char.{len_utf8}
use Rattle.lic_kind.specs.Kinds.{is_dropped}
use Rattle.lic_trim.specs.Texts.{cut_after}
pub use Rattle.lic_trim.specs.declared.source.SourceChar.{SourceChar}

-- the characters alone
abbrev pub chars_of : List SourceChar → List ℕ
chars_of = map (λ s. s.char)

-- characters that are in UTF-8 one after the other, the first of them at this byte
abbrev pub placed : ℕ → List ℕ → List SourceChar
placed at [] = []
placed at (c ∷ cs) = record { char = c; start = at; end = at + len_utf8 c } ∷ placed (at + len_utf8 c) cs

-- the source characters of a text in UTF-8 that begins at this byte
abbrev pub source_of : ℕ → List ℕ → List SourceChar
source_of at bytes = placed at (chars bytes)

-- the characters of a text that is no source: where they are has no effect
abbrev pub unplaced : List ℕ → List SourceChar
unplaced = map (λ c. record { char = c; start = 0; end = 0 })

-- a text without its dropped characters
abbrev pub without_dropped : List SourceChar → List SourceChar
without_dropped = filter (λ s. not (is_dropped s.char))

-- the lines of a text: each U+000A ends one, and belongs to it
abbrev pub lines_of : List SourceChar → List (List SourceChar)
lines_of = cut_after (λ s. s.char == 0x0A)
