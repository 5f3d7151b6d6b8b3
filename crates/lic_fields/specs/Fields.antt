-- Fields of a line.
use Rattle.std.specs.Prelude.{ℕ, ◌==◌, List, [], ◌∷◌, ◌++◌, codes, if◌then◌else◌, All, ◌≡◌}
use Rattle.std.specs.List.{flat_map}

-- a byte as it is written in a field: a backslash, a line feed, a carriage return and a tab as two bytes
abbrev pub escaped_byte : ℕ → List ℕ
escaped_byte b =
    if b == 0x5C then codes "\\\\"
    else (if b == 0x0A then codes "\\n"
    else (if b == 0x0D then codes "\\r"
    else (if b == 0x09 then codes "\\t"
    else b ∷ [])))

abbrev pub escaped : List ℕ → List ℕ
escaped bytes = flat_map escaped_byte bytes

-- bytes that a field has as they are
abbrev pub ArePlain : List ℕ → Type 0
ArePlain bytes = All (λ b. escaped_byte b ≡ b ∷ []) bytes

-- a field, and the tab or the line end after it
abbrev pub field : List ℕ → ℕ → List ℕ
field bytes mark = bytes ++ mark ∷ []
