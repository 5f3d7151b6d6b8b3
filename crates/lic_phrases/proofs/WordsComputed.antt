-- The words of a list, computed: phrase after phrase, line after line.
use Rattle.std.specs.Prelude.{ℕ, Bool, nat_lt, if◌then◌else◌, List, [], ◌∷◌, ◌++◌, length, map, bytes_eq}
use Rattle.std.specs.Cmp.Lexicographic.{pointwise}
use Rattle.std.specs.List.{position_or_len}
use Rattle.lic_phrases.specs.Rewriting.{Phrase}
use Rattle.lic_phrases.specs.Spelling.{spelled}
use Rattle.lic_phrases.specs.Classes.{classes_joined}
use Rattle.lic_phrases.specs.Listed.{with_representatives}

-- the phrases so far, each but once; for each the first of its class; and the numbers of the phrases of a line so far
pub record Reading : Type 0 where
  pub phrases : List (List (List ℕ))
  pub heads : List ℕ
  pub numbers : List ℕ

abbrev pub same_phrase : List (List ℕ) → List (List ℕ) → Bool
same_phrase = pointwise bytes_eq

-- a phrase with the index at which it is, or would be
abbrev pub with_phrase_at : ℕ → List (List ℕ) → Reading → Reading
with_phrase_at index phrase r =
    if nat_lt index (length r.phrases) then record { phrases = r.phrases; heads = r.heads; numbers = r.numbers ++ index ∷ [] }
    else record { phrases = r.phrases ++ phrase ∷ []; heads = r.heads ++ length r.heads ∷ []; numbers = r.numbers ++ index ∷ [] }

abbrev pub with_phrase : List (List ℕ) → Reading → Reading
with_phrase phrase r = with_phrase_at (position_or_len (same_phrase phrase) r.phrases) phrase r

abbrev pub with_phrases : List (List (List ℕ)) → Reading → Reading
with_phrases [] r = r
with_phrases (phrase ∷ phrases) r = with_phrases phrases (with_phrase phrase r)

-- the class of the first number and those of these others are one
abbrev pub joined_with : ℕ → List ℕ → List ℕ → List ℕ
joined_with first [] heads = heads
joined_with first (number ∷ numbers) heads = joined_with first numbers (classes_joined heads first number)

abbrev pub all_joined : List ℕ → List ℕ → List ℕ
all_joined [] heads = heads
all_joined (first ∷ numbers) heads = joined_with first numbers heads

abbrev pub line_ended : Reading → Reading
line_ended r = record { phrases = r.phrases; heads = all_joined r.numbers r.heads; numbers = [] }

abbrev pub with_lines : List (List (List (List ℕ))) → Reading → Reading
with_lines [] r = r
with_lines (line ∷ lines) r = with_lines lines (line_ended (with_phrases line r))

abbrev pub words_of_reading : Reading → List Phrase
words_of_reading r = with_representatives r.phrases (map spelled r.phrases) r.heads

abbrev pub words_computed : List (List (List (List ℕ))) → List Phrase
words_computed lines = words_of_reading (with_lines lines (record { phrases = []; heads = []; numbers = [] }))
