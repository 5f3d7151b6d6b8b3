-- The scheme of web addresses, token by token.
use Rattle.std.proofs.Common.{◌≡◌, ◌≤◌, ◌&&◌, cond, false, List, [], ◌∷◌, length, codes, refl, ap, ap₂, arith}
use Rattle.std.proofs.lemmas.Bool.{cond-false, and_right}
use Rattle.lic_lines.specs.Tokens.{Token, is_text}
use Rattle.lic_phrases.specs.Rewriting.{begins_authority, without_secure, https_as_http}

-- any other token stays
pub https_as_http-other : (t : Token) (rest : List Token) → is_text (codes "https") t ≡ false → https_as_http (t ∷ rest) ≡ t ∷ https_as_http rest
https_as_http-other t rest other = ap (λ b. cond (b && begins_authority rest) (record t { text = codes "http" }) t ∷ https_as_http rest) other

-- nothing changes before fewer than three tokens
alone : (t : Token) (ts : List Token) → begins_authority ts ≡ false → without_secure t ts ≡ t
alone t ts none = cond-false _ _ _ (and_right (is_text (codes "https") t) (begins_authority ts) none)

pub https_as_http-few : (ts : List Token) → length ts ≤ 3 → https_as_http ts ≡ ts
https_as_http-few [] few = refl
https_as_http-few (a ∷ []) few = ap (λ t. t ∷ []) (alone a [] refl)
https_as_http-few (a ∷ b ∷ []) few = ap₂ (λ t u. t ∷ u ∷ []) (alone a (b ∷ []) refl) (alone b [] refl)
https_as_http-few (a ∷ b ∷ c ∷ []) few = ap₂ (λ t ts. t ∷ ts) (alone a (b ∷ c ∷ []) refl) (ap₂ (λ t u. t ∷ u ∷ []) (alone b (c ∷ []) refl) (alone c [] refl))
https_as_http-few (a ∷ b ∷ c ∷ d ∷ ts) few = absurd (omega arith)
