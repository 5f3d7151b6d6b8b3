-- Places of a text in canonical spelling. A place is a number of bytes of it.
use Rattle.std.specs.Prelude.{◌≡◌, ◌==◌, ◌⊎◌, ℕ, suc, ◌+◌, Bool, IsTrue, List, length, All, slice_index, slice_range}
use Rattle.std.specs.Str.{IsUtf8}
use Rattle.lic_phrases.specs.Spelling.{spelled}
use Rattle.lic_tokens.specs.Tokens.{TokenValue}
use Rattle.lic_tokens.specs.Tokens.{AreTokenTexts}
use Rattle.lic_tokens.specs.Places.{IsTokenEnd, texts_of}

-- the bytes of the canonical spelling
abbrev pub spelling_of : List TokenValue → List ℕ
spelling_of tokens = spelled (texts_of tokens)

-- the texts of tokens are in UTF-8, and such as tokens have
pub record AreTexts (tokens : List TokenValue) : Type 0 where
  pub utf8 : All (λ t. IsUtf8 t.text) tokens
  pub texts : AreTokenTexts tokens

-- these bytes occur from one place up to the other
abbrev pub Occurs : List ℕ → ℕ → List ℕ → ℕ → Type 0
Occurs bytes p text q = (q ≡ p + length text) × (slice_range bytes p q ≡ text)

-- a blank is at a place
abbrev pub is_blank_at : List ℕ → ℕ → Bool
is_blank_at bytes p = slice_index bytes p == 0x20

-- a blank comes before a place
abbrev pub IsAfterBlank : List ℕ → ℕ → Type 0
IsAfterBlank bytes q = (p : ℕ) × (q ≡ suc p) × IsTrue (is_blank_at bytes p)

-- a place at which a word may have blanks: the text begins there, a blank is there, or a token ends there
abbrev pub HasGap : List TokenValue → ℕ → Type 0
HasGap tokens q = (q ≡ 0) ⊎ IsTrue (is_blank_at (spelling_of tokens) q) ⊎ IsTokenEnd tokens q

-- Where a blank of a word leads from the place before which it is: over a blank of the text, or, at any other gap, nowhere.
pub data OverBlank (tokens : List TokenValue) : ℕ → ℕ → Type 0 where
  over : {p : ℕ} → IsTrue (is_blank_at (spelling_of tokens) p) → OverBlank tokens p (suc p)
  stays : {p : ℕ} → ¬ (IsAfterBlank (spelling_of tokens) p) → HasGap tokens p → OverBlank tokens p p
