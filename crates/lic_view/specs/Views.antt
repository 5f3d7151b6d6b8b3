-- What is looked for among the tokens of a text.
use Rattle.std.specs.Prelude.{◌≡◌, ℕ, ◌+◌, ◌<◌, ◌≤◌, IsTrue, List, slice_range}
use Rattle.lic_kind.specs.Kinds.{is_word_kind, kind_of}
use Rattle.lic_tokens.specs.Tokens.{TokenValue}
use Rattle.lic_tokens.specs.Places.{place_end, place_start}
use Rattle.lic_places.specs.Places.{spelling_of}

-- the first of `count` tokens whose place is this one or comes after it, or their number where there is none
pub record IsFirstFrom (place_of : ℕ → ℕ) (count place first : ℕ) : Type 0 where
  pub within : first ≤ count
  pub before : (i : ℕ) → i < first → place_of i < place
  pub reached : (i : ℕ) → first ≤ i → i < count → place ≤ place_of i

-- `count` tokens from one on have this canonical spelling, which begins at a place of that of all tokens
pub record AreSpelledFrom (tokens : List TokenValue) (first count start : ℕ) (spelled : List ℕ) : Type 0 where
  pub is : spelled ≡ spelling_of (slice_range tokens first (first + count))
  pub ends : (i : ℕ) → i < count → place_end tokens (first + i) ≡ start + place_end (slice_range tokens first (first + count)) i
  pub starts : (i : ℕ) → i < count → place_start tokens (first + i) ≡ start + place_start (slice_range tokens first (first + count)) i

-- a letter of ASCII that is of words
abbrev pub IsWordByte : ℕ → Type 0
IsWordByte byte = (byte < 128) × IsTrue (is_word_kind (kind_of byte))
