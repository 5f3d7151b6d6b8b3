-- The lines of a text's tokens, some of which are added already.
use Rattle.std.specs.Prelude.{ℕ, ◌++◌, List, decimal, length, take}
use Rattle.std.specs.List.{flat_map, slice_range}
use Rattle.lic_phrases.specs.Spelling.{spelled}
use Rattle.lic_tokens.specs.Places.{texts_of}
use Rattle.lic_tokens.specs.Tokens.{TokenValue}
use Rattle.lic_fields.specs.Fields.{ArePlain, escaped, field}

-- what each line begins with, the tokens, and of how many the lines are added
pub record TokenLinesValue : Type 0 where
  pub front : List ℕ
  pub tokens : List TokenValue
  pub added : ℕ

-- the line of a token after these bytes: its first byte and its end, and its text
abbrev pub line_after : List ℕ → TokenValue → List ℕ
line_after front t =
    front ++ (field (decimal t.span.start) 0x09
    ++ (field (decimal t.span.end) 0x09 ++ field (escaped t.text) 0x0A))

-- the lines of the tokens from one number up to another
abbrev pub lines_between : List ℕ → List TokenValue → ℕ → ℕ → List ℕ
lines_between front tokens from to = flat_map (line_after front) (slice_range tokens from to)

-- none of the bytes of the canonical spelling is escaped from where the texts of the first tokens end up to a place
abbrev pub ArePlainAfter : List TokenValue → ℕ → ℕ → Type 0
ArePlainAfter tokens count place =
    ArePlain (slice_range (spelled (texts_of tokens)) (length (spelled (take count (texts_of tokens)))) place)
