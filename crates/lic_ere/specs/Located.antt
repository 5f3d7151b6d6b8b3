-- The characters of a pattern with their offsets.
use Rattle.std.specs.Prelude.{ℕ, ◌+◌, List, [], ◌∷◌, drop, chars}
use Rattle.std.specs.Char.{len_utf8}

-- the byte at which a character begins, and the character
abbrev pub Located : Type 0
Located = ℕ × ℕ

-- characters, the first of which begins at a byte
abbrev pub located_from : ℕ → List ℕ → List Located
located_from offset [] = []
located_from offset (c ∷ cs) = (offset, c) ∷ located_from (offset + len_utf8 c) cs

-- the characters of a pattern, given as its bytes
abbrev pub located : List ℕ → List Located
located pattern = located_from 0 (chars pattern)

-- What is read is beside the number of characters that it takes: here n more.
abbrev pub further : {A : Type 0} → ℕ → A × ℕ → A × ℕ
further n x = (x.0, n + x.1)

-- what is read, and the characters after those that it takes
abbrev pub with_remaining : {A : Type 0} → List Located → A × ℕ → A × List Located
with_remaining rest x = (x.0, drop x.1 rest)
