-- Where the texts of tokens are in their canonical spelling. A place is a number of bytes of it.
use Rattle.std.specs.Prelude.{◌≡◌, ℕ, suc, ◌-◌, ◌<◌, List, [], length, map, slice_index_or, take}
use Rattle.lic_phrases.specs.Spelling.{spelled}
use Rattle.lic_tokens.specs.Tokens.{TokenValue}

-- the texts of tokens, in UTF-8
abbrev pub texts_of : List TokenValue → List (List ℕ)
texts_of tokens = map (λ t. t.text) tokens

-- the place at which the text of the token number `i` ends
unfoldable pub place_end : List TokenValue → ℕ → ℕ
place_end tokens i = length (spelled (take (suc i) (texts_of tokens)))

-- the place at which it begins
unfoldable pub place_start : List TokenValue → ℕ → ℕ
place_start tokens i = place_end tokens i - length (slice_index_or (texts_of tokens) i [])

-- the text of a token ends at this place
pub record IsTokenEnd (tokens : List TokenValue) (place : ℕ) : Type 0 where
  pub number : ℕ
  pub within : number < length tokens
  pub ends : place ≡ place_end tokens number
