-- Lists of phrases in classes, and the keys by which they are looked up.
use Rattle.std.specs.Prelude.{◌≡◌, ℕ, ◌<◌, ◌≤◌, Bool, false, ◌==◌, if◌then◌else◌, max, List, [], ◌∷◌, ◌++◌, length, map, find, bytes_eq, slice_index_or, Option}
use Rattle.std.specs.List.{flat_map, onto_first}
use Rattle.std.specs.Cmp.Lexicographic.{pointwise}
use Rattle.lic_phrases.specs.Rewriting.{Phrase}

-- the phrases of a list in the order in which they came, and the spelling of each class by its number
pub record PhraseList : Type 0 where
  pub phrases : List Phrase
  pub spellings : List (List ℕ)

abbrev pub no_phrases : PhraseList
no_phrases = record { phrases = []; spellings = [] }

abbrev pub same_texts : List (List ℕ) → List (List ℕ) → Bool
same_texts = pointwise bytes_eq

-- the first phrase of the list with these texts
abbrev pub phrase_with : List Phrase → List (List ℕ) → Option Phrase
phrase_with words texts = find (λ p. same_texts texts p.texts) words

-- the list with one more phrase, which takes the index of the one with the same texts, or comes last
abbrev pub with_added : List Phrase → Phrase → List Phrase
with_added [] p = p ∷ []
with_added (q ∷ words) p = if same_texts p.texts q.texts then p ∷ words else q ∷ with_added words p

-- whether the first of these texts is the given one
abbrev pub begins_with : List ℕ → List (List ℕ) → Bool
begins_with text [] = false
begins_with text (first ∷ texts) = bytes_eq first text

-- how many tokens the longest phrase has that begins with this text, or 0
abbrev pub longest_from : List Phrase → List ℕ → ℕ
longest_from [] text = 0
longest_from (p ∷ words) text =
    if begins_with text p.texts then max (length p.texts) (longest_from words text) else longest_from words text

-- bounds on how many tokens a phrase has that begins with a text: at one text raised to a count of at most eight
pub record IsRaised (first : List ℕ) (count : ℕ) (most_from raised : List ℕ → ℕ) : Type 0 where
  pub at_text : (text : List ℕ)
      → raised text ≡ (if bytes_eq first text then max (most_from first) count else most_from text)
  pub few : count ≤ 8

-- each phrase has a token
abbrev pub HaveTokens : List Phrase → Type 0
HaveTokens [] = Unit {0}
HaveTokens (p ∷ words) = (0 < length p.texts) × HaveTokens words

-- ---- keys

-- the texts as one key: each with the byte 0xFF after it, which UTF-8 never has
abbrev pub key_of : List (List ℕ) → List ℕ
key_of texts = flat_map (λ text. text ++ 0xFF ∷ []) texts

-- the texts of a key
abbrev pub key_texts : List ℕ → List (List ℕ)
key_texts [] = []
key_texts (b ∷ key) = if b == 0xFF then [] ∷ key_texts key else onto_first b (key_texts key)

-- a key that is no other than that of its texts
abbrev pub IsKey : List ℕ → Type 0
IsKey key = key_of (key_texts key) ≡ key

-- the phrase of a key and a class
abbrev pub phrase_of : List (List ℕ) → List ℕ → ℕ → Phrase
phrase_of spellings key class = record { texts = key_texts key; spelling = slice_index_or spellings class [] }

-- a key of one to eight texts with one of `count` classes
pub record IsEntry (count : ℕ) (key : List ℕ) (class : ℕ) : Type 0 where
  pub is_key : IsKey key
  pub some : 0 < length (key_texts key)
  pub few : length (key_texts key) ≤ 8
  pub known : class < count

-- keys of any kind, read as bytes, with their classes
module _ {K : Type 0} (bytes : K → List ℕ) where
  abbrev pub AreEntries : ℕ → List (K × ℕ) → Type 0
  AreEntries count [] = Unit {0}
  AreEntries count (e ∷ entries) = IsEntry count (bytes e.0) e.1 × AreEntries count entries

  -- the phrases of these entries
  abbrev pub phrases_in : List (List ℕ) → List (K × ℕ) → List Phrase
  phrases_in spellings entries = map (λ e. phrase_of spellings (bytes e.0) e.1) entries

  -- What a list of phrases keeps: entries by key, the spellings of the classes, and for each text an upper bound on how
  -- many tokens a phrase has that begins with it.
  pub record IsStored (entries : List (K × ℕ)) (spellings : List (List ℕ)) (most_from : List ℕ → ℕ) : Type 0 where
    pub entered : AreEntries (length spellings) entries
    pub bound : (text : List ℕ) → longest_from (phrases_in spellings entries) text ≤ most_from text
    pub short : (text : List ℕ) → most_from text ≤ 8
