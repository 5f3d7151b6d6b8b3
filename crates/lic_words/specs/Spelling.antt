-- Lists of tokens, and the words that spell them. Here a token is the list of its letters.
use Rattle.std.specs.Prelude.{◌≡◌, ℕ, ◌≤◌, Bool, true, false, ◌==◌, ◌&&◌, List, [], ◌∷◌, ◌++◌, if◌then◌else◌}
use Rattle.lic_words.specs.Words.{Word, blank, blanks}
use Rattle.lic_words.specs.Letters.{is_word}

-- what may be between two letters: no blank, none or more, one or more
pub data Gap : Type 0 where
  no_gap : Gap
  free : Gap
  needed : Gap

-- a gap between two letters of words is needed, any other is free
abbrev pub gap_of : Bool → Bool → Gap
gap_of false both_words = no_gap
gap_of true false = free
gap_of true true = needed

-- The letters of a sequence after the letter `last`, each with the gap before it. A blank in the sequence is a gap.
abbrev pub gapped_from : ℕ → Bool → List ℕ → List (Gap × ℕ)
gapped_from last apart [] = []
gapped_from last apart (c ∷ rest) =
    if c == blank then gapped_from last true rest
    else (gap_of apart (is_word last && is_word c), c) ∷ gapped_from c false rest

-- the tokens' letters in a row, with a blank before each token
abbrev pub sequence_of : List (List ℕ) → List ℕ
sequence_of [] = []
sequence_of (t ∷ ts) = blank ∷ t ++ sequence_of ts

-- The letters of the tokens in order, with a gap where two tokens meet and at each blank inside a token.
-- Before the first letter there is a free gap, since a blank is no letter of a word.
abbrev pub gapped : List (List ℕ) → List (Gap × ℕ)
gapped ts = gapped_from blank false (sequence_of ts)

-- how many blanks a gap may be written as
abbrev pub Allows : Gap → ℕ → Type 0
Allows no_gap n = n ≡ 0
Allows free n = Unit {0}
Allows needed n = 1 ≤ n

-- each gap is written as that many blanks as it allows; any number of blanks may end the word
abbrev pub SpellsGapped : Word → List (Gap × ℕ) → Type 0
SpellsGapped w [] = (n : ℕ) × (w ≡ blanks n)
SpellsGapped w (p ∷ rest) = (n : ℕ) × Allows p.0 n × (v : Word) × (w ≡ blanks n ++ p.1 ∷ v) × SpellsGapped v rest

-- the word spells the tokens
abbrev pub Spells : Word → List (List ℕ) → Type 0
Spells w ts = SpellsGapped w (gapped ts)

-- the last letter of a sequence, or else the letter before it
abbrev pub last_letter : ℕ → List ℕ → ℕ
last_letter last [] = last
last_letter last (c ∷ rest) = if c == blank then last_letter last rest else last_letter c rest

-- the last letter of the tokens
abbrev pub last_of : ℕ → List (List ℕ) → ℕ
last_of last [] = last
last_of last (t ∷ ts) = last_of (last_letter last t) ts

-- whether a gap comes after the last letter of a sequence: a blank ends it, or it is empty and a gap is there already
abbrev pub apart_after : Bool → List ℕ → Bool
apart_after apart [] = apart
apart_after apart (c ∷ rest) = apart_after (c == blank) rest
