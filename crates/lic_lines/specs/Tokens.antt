-- First tokens, and single signs.
use Rattle.std.specs.Prelude.{ℕ, Bool, true, false, not, ◌&&◌, if◌then◌else◌, List, [], ◌∷◌, map, bytes_eq, codes, encode_utf8_all}
use Rattle.std.specs.List.{flat_map}
use Rattle.lic_kind.specs.Kinds.{spell}
use Rattle.lic_trim.specs.Texts.{groups}
use Rattle.lic_trim.specs.declared.source.SourceChar.{SourceChar}
use Rattle.lic_kind.specs.LineRules.{LineRules}
use Rattle.lic_trim.specs.declared.line_part.LinePart.{LinePart}
use Rattle.lic_lines.specs.Cells.{Cell, Blank, Mark, Word, cell_of, line_cells, cells_of}
use Rattle.lic_lines.specs.Streaks.{end_after, streaks_joined}
use Rattle.lic_lines.specs.SmallStrings.{bytes_in}
use Rattle.lic_lines.specs.declared.small_string.SmallString.{SmallString}
use Rattle.lic_lines.specs.declared.tokens.FirstToken.{FirstToken}

-- a token: its text in UTF-8, its span in bytes, and whether a blank comes before it
pub record Token : Type 0 where
  pub text : List ℕ
  pub start : ℕ
  pub end : ℕ
  pub after_blank : Bool

abbrev pub both_words : Cell → Cell → Bool
both_words (Word s) (Word t) = true
both_words _ _ = false

-- the letters that a cell denotes
abbrev pub cell_letters : Cell → List ℕ
cell_letters Blank = []
cell_letters (Mark s) = spell s.char
cell_letters (Word s) = spell s.char

-- the letters of these cells, in a row
abbrev pub letters_of : List Cell → List ℕ
letters_of = flat_map cell_letters

-- the token of a group of cells, of which the first was read from s
abbrev pub token_of : Bool → SourceChar → List Cell → Token
token_of after_blank s group =
    record {
      text = encode_utf8_all (letters_of group);
      start = s.start;
      end = end_after s.start group;
      after_blank =
          after_blank;
    }

-- the tokens of these groups, where a blank comes before the first or does not
abbrev pub tokens_from : Bool → List (List Cell) → List Token
tokens_from after_blank [] = []
tokens_from after_blank ([] ∷ groups) = tokens_from after_blank groups
tokens_from after_blank ((Blank ∷ cells) ∷ groups) = tokens_from true groups
tokens_from after_blank ((Mark s ∷ cells) ∷ groups) = token_of after_blank s (Mark s ∷ cells) ∷ tokens_from false groups
tokens_from after_blank ((Word s ∷ cells) ∷ groups) = token_of after_blank s (Word s ∷ cells) ∷ tokens_from false groups

-- whether a blank comes after the last token of these groups, where one comes before the first or does not
abbrev pub blank_after : Bool → List (List Cell) → Bool
blank_after after_blank [] = after_blank
blank_after after_blank ([] ∷ groups) = blank_after after_blank groups
blank_after after_blank ((Blank ∷ cells) ∷ groups) = blank_after true groups
blank_after after_blank ((Mark s ∷ cells) ∷ groups) = blank_after false groups
blank_after after_blank ((Word s ∷ cells) ∷ groups) = blank_after false groups

-- each longest streak of word characters, and each mark
abbrev pub first_tokens : List Cell → List Token
first_tokens cells = tokens_from true (groups both_words cells)

-- ---- single signs

abbrev pub is_text : List ℕ → Token → Bool
is_text text t = bytes_eq text t.text

-- three unbroken tokens `(`, `c`, `)`
abbrev pub is_sign_in_parentheses : Token → Token → Token → Bool
is_sign_in_parentheses a b c = is_text (codes "(") a && is_text (codes "c") b && not b.after_blank && is_text (codes ")") c && not c.after_blank

-- one sign, from the first of these tokens to the last
abbrev pub sign_from : Token → Token → Token
sign_from first last = record first { text = codes "copyright"; end = last.end }

-- the token of U+00A9 as a sign, and any other as it is
abbrev pub as_sign : Token → Token
as_sign t = if is_text (encode_utf8_all (0xA9 ∷ [])) t then record t { text = codes "copyright" } else t

-- each copyright sign as the token `copyright`, by itself
abbrev pub single_signs : List Token → List Token
single_signs [] = []
single_signs (a ∷ []) = as_sign a ∷ []
single_signs (a ∷ b ∷ []) = as_sign a ∷ as_sign b ∷ []
single_signs (a ∷ b ∷ c ∷ ts) =
    if is_sign_in_parentheses a b c then sign_from a c ∷ single_signs ts else as_sign a ∷ single_signs (b ∷ c ∷ ts)

-- ---- of a line, and of a text

-- the tokens of these cells
abbrev pub tokens_of_cells : LineRules → List Cell → List Token
tokens_of_cells rules cells = single_signs (first_tokens (streaks_joined rules cells))

-- the tokens of a line that has no dropped characters
abbrev pub line_tokens : LineRules → LinePart → List SourceChar → List Token
line_tokens rules part line = tokens_of_cells rules (line_cells rules part line)

-- the tokens of a whole text
abbrev pub text_tokens : LineRules → List SourceChar → List Token
text_tokens rules text = tokens_of_cells rules (cells_of rules text)

-- the first tokens of characters of which nothing is taken, where a blank comes before them or does not
abbrev pub tokens_after : LineRules → Bool → List SourceChar → List Token
tokens_after rules after_blank text = tokens_from after_blank (groups both_words (streaks_joined rules (map cell_of text)))

-- the first tokens of characters of which nothing is taken
abbrev pub part_tokens : LineRules → List SourceChar → List Token
part_tokens rules text = first_tokens (streaks_joined rules (map cell_of text))

-- and with each copyright sign by itself
abbrev pub text_tokens_after : LineRules → Bool → List SourceChar → List Token
text_tokens_after rules after_blank text = single_signs (tokens_after rules after_blank text)

-- the bytes of a string
abbrev pub small_bytes : SmallString → List ℕ
small_bytes s = bytes_in s.storage

-- the token that a value of the code holds
abbrev pub token_in : FirstToken → Token
token_in t = record { text = small_bytes t.text; start = t.start; end = t.end; after_blank = t.after_blank }

abbrev pub tokens_in : List FirstToken → List Token
tokens_in = map token_in
