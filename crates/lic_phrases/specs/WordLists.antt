-- A list of equivalent words, a text in UTF-8: its lines and phrases, its first fault, and its words.
use Rattle.std.specs.Prelude.{◌≡◌, ℕ, ◌+◌, ◌<◌, Bool, true, not, ◌||◌, ◌==◌, nat_lt, nat_le, if◌then◌else◌, List, [], ◌∷◌, ◌++◌, map, find, length, Option, Some, None, slice_index_or}
use Rattle.std.specs.Char.{is_whitespace}
use Rattle.std.specs.Str.{chars}
use Rattle.std.specs.List.{flat_map, slice_split, Contains}
use Rattle.std.specs.Option.{option_map_or}
use Rattle.lic_kind.specs.Kinds.{is_dropped}
use Rattle.lic_trim.specs.Sources.{unplaced, without_dropped}
use Rattle.lic_kind.specs.LineRules.{profile}
use Rattle.lic_lines.specs.Cells.{cell_of}
use Rattle.lic_lines.specs.Tokens.{Token, tokens_of_cells}
use Rattle.lic_phrases.specs.Rewriting.{Phrase, sign_sequences, https_as_http}
use Rattle.lic_phrases.specs.Spelling.{spelled}
use Rattle.lic_phrases.specs.Classes.{Equivalent, IsFirst}
use Rattle.lic_phrases.specs.declared.fault.WordsCause.{WordsCause}
use Rattle.lic_phrases.specs.declared.fault.WordsCause.TheVariants.{EmptyPhrase, TooManyPhrases, PhraseTooLong, OutOfMemory}
use Rattle.lic_phrases.specs.declared.fault.WordsFault.{WordsFault}

-- ---- phrases

abbrev pub texts_of : List Token → List (List ℕ)
texts_of tokens = map (λ t. t.text) tokens

-- the texts of the tokens of a phrase: where its characters are has no effect, it has no lines,
-- signs are joined and https is http, and no phrase is looked for
abbrev pub phrase_texts : List ℕ → List (List ℕ)
phrase_texts cs = texts_of (https_as_http
    (sign_sequences (tokens_of_cells profile (map cell_of (without_dropped (unplaced cs))))))

-- ---- lines

-- a line without phrases: of white space and dropped characters alone, or whose first other character is `#`
abbrev pub is_skipped : List ℕ → Bool
is_skipped cs = option_map_or (λ c. c == 0x23) (find (λ c. not (is_whitespace c || is_dropped c)) cs) true

-- the phrases of a line, between its commas
abbrev pub split_phrases : List ℕ → List (List (List ℕ))
split_phrases line = map (λ phrase. phrase_texts (chars phrase)) (slice_split (λ b. b == 0x2C) line)

abbrev pub phrases_of_line : List ℕ → List (List (List ℕ))
phrases_of_line line = if is_skipped (chars line) then [] else split_phrases line

-- the phrases of each line of a list; U+000A and the comma are one byte each, which is in no other character
abbrev pub phrase_lines : List ℕ → List (List (List (List ℕ)))
phrase_lines text = map phrases_of_line (slice_split (λ b. b == 0x0A) text)

-- the phrases in file order, repeats too
abbrev pub in_order : {A : Type 0} → List (List A) → List A
in_order lines = flat_map (λ line. line) lines

-- ---- faults

-- what is wrong with a phrase by itself: it has no token, or more than 8, or more than 256 bytes in canonical spelling
abbrev pub fault_of_phrase : List (List ℕ) → Option WordsCause
fault_of_phrase phrase =
    if length phrase == 0 then Some EmptyPhrase
    else (if nat_lt 8 (length phrase) || nat_lt 256 (length (spelled phrase)) then Some PhraseTooLong
    else None)

-- what is wrong with a phrase after `before` others in the file, repeats counted
abbrev pub fault_of : ℕ → List (List ℕ) → Option WordsCause
fault_of before phrase = if nat_le 4096 before then Some TooManyPhrases else fault_of_phrase phrase

-- the phrases of these lines, each with the number of its line, where the first of the lines has this number
abbrev pub located : {A : Type 0} → ℕ → List (List A) → List (ℕ × A)
located number [] = []
located number (line ∷ lines) = map (λ phrase. (number, phrase)) line ++ located (number + 1) lines

-- the fault of a phrase on this line, or where it has none, a later one
abbrev pub fault_or : Option WordsCause → ℕ → Option WordsFault → Option WordsFault
fault_or (Some cause) number later = Some (record { line = number; cause = cause })
fault_or None number later = later

-- the first fault of these phrases, which come after `before` others in the file
abbrev pub fault_from : ℕ → List (ℕ × List (List ℕ)) → Option WordsFault
fault_from before [] = None
fault_from before (phrase ∷ phrases) = fault_or (fault_of before phrase.1) phrase.0 (fault_from (before + 1) phrases)

-- the first fault of a list; lines count from 1
abbrev pub first_fault : List ℕ → Option WordsFault
first_fault text = fault_from 0 (located 1 (phrase_lines text))

-- what is reported for a fault on this line; lack of memory is on no line
abbrev pub fault_at : ℕ → WordsCause → WordsFault
fault_at number EmptyPhrase = record { line = number; cause = EmptyPhrase }
fault_at number TooManyPhrases = record { line = number; cause = TooManyPhrases }
fault_at number PhraseTooLong = record { line = number; cause = PhraseTooLong }
fault_at number OutOfMemory = record { line = 0; cause = OutOfMemory }

-- lack of memory
abbrev pub out_of_memory : WordsFault
out_of_memory = record { line = 0; cause = OutOfMemory }

-- ---- words

-- the phrases of these lines in the order of first occurrence, each but once, with the spelling of its class: of the first phrase of
-- the file that is equivalent to it
pub record AreWords (lines : List (List (List (List ℕ)))) (words : List Phrase) : Type 0 where
  pub all : (p : List (List ℕ)) → Contains (in_order lines) p → (w : Phrase) × Contains words w × (w.texts ≡ p)
  pub only : (w : Phrase) → Contains words w → Contains (in_order lines) w.texts
  pub once : (i j : ℕ) (w : Phrase) → i < length words → j < length words
      → (slice_index_or words i w).texts ≡ (slice_index_or words j w).texts → i ≡ j
  -- before each index of a word in the file there is one of each word that comes before it here
  pub order : (i j k : ℕ) (w : Phrase) (p : List (List ℕ)) → i < j → j < length words → k < length (in_order lines)
      → slice_index_or (in_order lines) k p ≡ (slice_index_or words j w).texts
      → (e : ℕ) × (e < k) × (slice_index_or (in_order lines) e p ≡ (slice_index_or words i w).texts)
  pub spellings : (w : Phrase) → Contains words w
      → (first : List (List ℕ)) × IsFirst (in_order lines) (Equivalent lines w.texts) first
      × (w.spelling ≡ spelled first)
