-- Laws of lic_places.
use Rattle.std.proofs.Common.{◌≡◌, ◌⊎◌, ◌↔◌, ℕ, suc, ◌+◌, ◌<◌, ◌≤◌, List, length, map, IsTrue, slice_range}
use Rattle.std.specs.Str.{chars}
use Rattle.lic_words.specs.Words.{Word}
use Rattle.lic_words.specs.Spelling.{Spells}
use Rattle.lic_tokens.specs.Tokens.{TokenValue}
use Rattle.lic_tokens.specs.Places.{place_end, place_start}
use Rattle.lic_places.specs.Places.{AreTexts, OverBlank, is_blank_at, spelling_of}
use Rattle.lic_places.specs.Reads.{ReadsTokens}
use Rattle.lic_places.proofs.TieRange.{spelling_is_read}
use Rattle.lic_places.proofs.TokenPlaces.{OverBlank-order, tokens-next}
pub use Rattle.lic_places.proofs.TokenPlaces.{place_start-first as tokens_are_at-first, place_end-order as tokens_are_at-order, place_start-text as tokens_are_at-text, token-starts as no_blank-start, token-ends as no_blank-end}

pub a_spelling_is_read_from_token_to_token : (tokens : List TokenValue) (first last : ℕ) (w : Word)
    → AreTexts tokens → first ≤ last → last < length tokens
    → Spells w (map (λ t. chars t.text) (slice_range tokens first (last + 1)))
    ↔ ReadsTokens tokens first w last
a_spelling_is_read_from_token_to_token = λ tokens first last w known order within. spelling_is_read tokens first last w known order within

pub a_blank_leads_one_way-order : (tokens : List TokenValue) (p q : ℕ) → OverBlank tokens p q → p ≤ q
a_blank_leads_one_way-order tokens p q leads = (OverBlank-order tokens p q leads).0

pub tokens_are_at-next : (tokens : List TokenValue) (i : ℕ) → AreTexts tokens → suc i < length tokens
    → (place_start tokens (suc i) ≡ place_end tokens i)
    ⊎ ((place_start tokens (suc i) ≡ suc (place_end tokens i))
    × IsTrue (is_blank_at (spelling_of tokens) (place_end tokens i)))
tokens_are_at-next tokens i texts within = tokens-next tokens i within
