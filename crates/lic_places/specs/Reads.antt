-- Which words spell what is between two places.
use Rattle.std.specs.Prelude.{◌≡◌, ◌⊎◌, ℕ, suc, List, [], ◌∷◌}
use Rattle.std.specs.Char.{IsScalar, encode_utf8}
use Rattle.lic_words.specs.Words.{Word, blank}
use Rattle.lic_tokens.specs.Tokens.{TokenValue}
use Rattle.lic_tokens.specs.Places.{place_start, place_end}
use Rattle.lic_places.specs.Places.{IsAfterBlank, OverBlank, Occurs, spelling_of}

-- a letter is between two places, or a blank leads from the one to the other
abbrev pub Takes : List TokenValue → ℕ → ℕ → ℕ → Type 0
Takes tokens p c q =
    ((c ≡ blank) × OverBlank tokens p q)
    ⊎ (¬ (c ≡ blank) × IsScalar c × Occurs (spelling_of tokens) p (encode_utf8 c) q)

-- the word spells what is from one place up to the other
abbrev pub Reads : List TokenValue → ℕ → Word → ℕ → Type 0
Reads tokens p [] q = p ≡ q
Reads tokens p (c ∷ w) q = (r : ℕ) × Takes tokens p c r × Reads tokens r w q

-- where a word that spells tokens from this one on may begin: at its text, or at the blank before it
abbrev pub BeginsAt : List TokenValue → ℕ → ℕ → Type 0
BeginsAt tokens first p =
    (p ≡ place_start tokens first)
    ⊎ ((suc p ≡ place_start tokens first) × IsAfterBlank (spelling_of tokens) (suc p))

-- the word spells the tokens from the first to the last
abbrev pub ReadsTokens : List TokenValue → ℕ → Word → ℕ → Type 0
ReadsTokens tokens first w last =
    (p : ℕ) × BeginsAt tokens first p × Reads tokens p w (place_end tokens last)
