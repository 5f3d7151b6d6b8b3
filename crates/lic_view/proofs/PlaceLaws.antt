-- Laws of places, as lemmas.
use Rattle.std.proofs.Common.{◌≡◌, ℕ, suc, ◌<◌, List, length, false, IsTrue}
use Rattle.lic_tokens.specs.Tokens.{TokenValue}
use Rattle.lic_tokens.specs.Places.{place_end}
use Rattle.lic_places.specs.Places.{AreTexts, IsAfterBlank, OverBlank, is_blank_at, spelling_of}
use Rattle.lic_places.proofs.TokenPlaces.{OverBlank-one, OverBlank-twice, blank-alone, token-ends}
use Rattle.lic_view.proofs.ViewPlaces.{ends-rise}
pub use Rattle.lic_places.proofs.TextReading.{text-read}

-- tokens end one after another
pub place_end-rises : (tokens : List TokenValue) (i j : ℕ) → AreTexts tokens → i < j → j < length tokens → place_end tokens i < place_end tokens j
place_end-rises = ends-rise

pub end-not_after : (tokens : List TokenValue) (i : ℕ) → AreTexts tokens → i < length tokens → ¬ (IsAfterBlank (spelling_of tokens) (place_end tokens i))
end-not_after = token-ends

pub blank-one : (tokens : List TokenValue) (p r q : ℕ) → OverBlank tokens p q → OverBlank tokens r q → p ≡ r
blank-one = OverBlank-one

pub blank-twice : (tokens : List TokenValue) (p r q : ℕ) → AreTexts tokens → OverBlank tokens r q → OverBlank tokens p r → p ≡ r
blank-twice = OverBlank-twice

pub blanks-apart : (tokens : List TokenValue) (p : ℕ) → AreTexts tokens → IsTrue (is_blank_at (spelling_of tokens) p) →
    is_blank_at (spelling_of tokens) (suc p) ≡ false
blanks-apart = blank-alone
