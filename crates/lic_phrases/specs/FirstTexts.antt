-- The prefilter of the texts that begin a phrase.
use Rattle.std.specs.Prelude.{◌≡◌, ◌≢◌, ◌+◌, ◌-◌, ◌*◌, ◌%◌, ◌<◌, ℕ, suc, min, Bool, true, false, List, [], ◌∷◌, length, slice_index, codes, bytes_eq}
use Rattle.lic_trim.specs.PieceLengths.{has_bit}

-- Whether the table has a bit for the first byte of a text and its length, where the last bit is for 31 bytes and more. It says yes to no text at all.
abbrev pub may_have : List ℕ → List ℕ → Bool
may_have lengths [] = true
may_have lengths (first ∷ rest) = has_bit (slice_index lengths first) (min (suc (length rest)) 31)

-- each text with a bound has its bit
abbrev pub HasAll : List ℕ → (List ℕ → ℕ) → Type 0
HasAll lengths most_from = (text : List ℕ) → may_have lengths text ≡ false → most_from text ≡ 0

-- a number below 256 that its first and its last byte make
abbrev pub pair_of : List ℕ → ℕ
pair_of text = (8 * slice_index text 0 + slice_index text (length text - 1)) % 256

-- the text with this number as its first byte
abbrev pub by_pair : List ℕ → List ℕ
by_pair [] = []
by_pair (first ∷ rest) = pair_of (first ∷ rest) ∷ rest

-- each text with a bound has its bit in the table of these numbers
abbrev pub HasAllByPair : List ℕ → (List ℕ → ℕ) → Type 0
HasAllByPair pairs most_from = (text : List ℕ) → may_have pairs (by_pair text) ≡ false → most_from text ≡ 0

-- A text that is no sign, no `https` and no `(`, which may begin a sign, and does not begin with an apostrophe or a hyphen, of which
-- several side by side are one token, unless it is that alone.
pub record IsPlain (text : List ℕ) : Type 0 where
  pub sign : bytes_eq (codes "copyright") text ≡ false
  pub address : bytes_eq (codes "https") text ≡ false
  pub parenthesis : bytes_eq (codes "(") text ≡ false
  pub apostrophe : 1 < length text → slice_index text 0 ≢ 0x27
  pub hyphen : 1 < length text → slice_index text 0 ≢ 0x2D

-- each text that is not plain has its bit
pub record HasOthers (lengths : List ℕ) : Type 0 where
  pub sign : may_have lengths (codes "copyright") ≡ true
  pub address : may_have lengths (codes "https") ≡ true
  pub parenthesis : may_have lengths (codes "(") ≡ true
  pub apostrophe : (next : ℕ) (rest : List ℕ) → may_have lengths (0x27 ∷ next ∷ rest) ≡ true
  pub hyphen : (next : ℕ) (rest : List ℕ) → may_have lengths (0x2D ∷ next ∷ rest) ≡ true

-- A text that is neither `copyright` nor `https`.
pub record IsNoSign (text : List ℕ) : Type 0 where
  pub sign : bytes_eq (codes "copyright") text ≡ false
  pub address : bytes_eq (codes "https") text ≡ false

-- both have their bits in the table by first and last bytes
pub record HasSigns (pairs : List ℕ) : Type 0 where
  pub sign : may_have pairs (by_pair (codes "copyright")) ≡ true
  pub address : may_have pairs (by_pair (codes "https")) ≡ true
